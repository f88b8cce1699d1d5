-- `exponential_whole_collection::slot::put` meets its contract. Assumes nothing.
use mathlib.Core.Path.{◌≡◌, ap, ◌∙◌}
use Rattle.exponential_wholes.specs.declared.Head.{Head}
use Rattle.exponential_whole_slots.specs.Cells.{Cells, cells, head_at}
use Rattle.whole_point.specs.Handing.{exponential_point}
use Rattle.listing.specs.Listed.{Output, output}
use Rattle.exponential_whole_collection.specs.Points.{exponential_whole_lister}
use Rattle.exponential_collection.proofs.Slots.{put-not}
use Rattle.exponential_whole_collection.proofs.Slots.{laid, put-room, put_on}
use Rattle.exponential_whole_collection.proofs.slot.put.Goals as goal

pub returns-then-not-due : goal.returns-then-not-due
returns-then-not-due c =
    let lent : Cells = let a = c.args in cells a.figures.now a.extremes.now a.pos.now a.neg.now in
    let out : Output = let a = c.args in output a.out_sets.now a.out_words.now a.out_pos.now a.out_neg.now in
    let a = c.args in
    put-not (exponential_whole_lister a.size a.top a.sums) a.show a.updated a.due (lent) a.x a.row a.at (out) c.if-not-due.true

pub head_of-head-requires : goal.head_of-head-requires
head_of-head-requires c =
    let lent : Cells = let a = c.args in cells a.figures.now a.extremes.now a.pos.now a.neg.now in
    let a = c.args in
    (laid a.size a.top c.requires.sound.set (lent) a.x c.requires.sound.room a.updated c.requires.sound.agrees).reads

pub put-requires : goal.put-requires
put-requires c =
    let lent : Cells = let a = c.args in cells a.figures.now a.extremes.now a.pos.now a.neg.now in
    let point-is : c.exponential_point-p.result
    ≡ exponential_point (head_at c.args.top (lent) c.args.x c.args.updated) c.args.show c.args.sums = c.exponential_point-p.ensures ∙ ap (λ (h : Head). exponential_point h c.args.show c.args.sums) c.head_of-head.ensures in
    let out : Output = let a = c.args in output a.out_sets.now a.out_words.now a.out_pos.now a.out_neg.now in
    let a = c.args in
    put-room a.size a.top c.requires.sound.set (lent) a.x c.requires.sound.room a.updated c.requires.sound.agrees a.show a.sums
    c.exponential_point-p.result (point-is) a.row a.at (out) (c.requires.free c.if-not-due.false)

pub returns : goal.returns
returns c =
    let lent : Cells = let a = c.args in cells a.figures.now a.extremes.now a.pos.now a.neg.now in
    let point-is : c.exponential_point-p.result
    ≡ exponential_point (head_at c.args.top (lent) c.args.x c.args.updated) c.args.show c.args.sums = c.exponential_point-p.ensures ∙ ap (λ (h : Head). exponential_point h c.args.show c.args.sums) c.head_of-head.ensures in
    let out : Output = let a = c.args in output a.out_sets.now a.out_words.now a.out_pos.now a.out_neg.now in
    let a = c.args in
    c.put.ensures
    ∙ put_on a.size a.top c.requires.sound.set (lent) a.x c.requires.sound.room a.updated c.requires.sound.agrees a.show a.sums
    c.exponential_point-p.result (point-is) a.row a.at (out) a.due c.if-not-due.false
