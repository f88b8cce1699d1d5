-- `explicit_whole_collection::slot::put_point` meets its contract. Assumes nothing.
use mathlib.Core.Path.{◌≡◌, ap, ◌∙◌}
use Rattle.whole_point.specs.declared.Point.{Point}
use Rattle.point.specs.declared.Figures.TheVariants.{Explicit}
use Rattle.whole_listing.specs.Words.{words_of}
use Rattle.listing.specs.Listed.{Output, output}
use Rattle.whole_listing.specs.Listed.{put_at}
use Rattle.collecting.specs.Read.{span_of}
use Rattle.collecting.specs.Slots.{laid_at}
use Rattle.explicit_whole_collection.specs.Ready.{point_put}
use Rattle.explicit_collection.proofs.Slots.{room_of, point-laid}
use Rattle.explicit_whole_collection.proofs.slot.put_point.Goals as goal

pub put-requires : goal.put-requires
put-requires c =
    let figures : c.explicit_point-p.result.figures ≡ Explicit c.args.head.count = ap (λ (q : Point). q.figures) c.explicit_point-p.ensures in
    let lent : Output = let a = c.args in output a.out_sets.now a.out_words.now a.out_pos.now a.out_neg.now in
    let a = c.args in
    room_of a.bounds.now a.at c.explicit_point-p.result.figures a.head.count (figures) a.counts.now (lent) c.requires.bounds_value.1 c.requires.place

pub returns : goal.returns
unfolding put_at laid_at
returns c =
    let figures : c.explicit_point-p.result.figures ≡ Explicit c.args.head.count = ap (λ (q : Point). q.figures) c.explicit_point-p.ensures in
    let lent : Output = let a = c.args in output a.out_sets.now a.out_words.now a.out_pos.now a.out_neg.now in
    let a = c.args in
    c.put.ensures
    ∙ point-laid a.bounds.now a.at c.explicit_point-p.result.figures a.head.count (figures) a.counts.now (lent) a.row (words_of c.explicit_point-p.result (span_of a.bounds.now))
    ∙ ap (λ (q : Point). point_put a.bounds.now q a.at a.row a.counts.now (lent)) c.explicit_point-p.ensures
