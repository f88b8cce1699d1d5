-- `explicit_whole_collection::slot::survey` meets its contract. Assumes nothing.
use Prim.Native.Nat.{◌≤◌}
use mathlib.Core.Path.{refl, sym, subst, ◌∙◌}
use mathlib.Core.Bool.{true}
use native.Mathlib.Omega.{arith}
use Rattle.explicit.proofs.Cases.{count-few}
use Rattle.explicit_whole_slots.specs.Cells.{Cells}
use Rattle.collecting.specs.Slots.{More}
use Rattle.collecting.specs.declared.Survey.{Survey}
use Rattle.explicit_whole_collection.specs.Points.{explicit_whole_lister}
use Rattle.explicit_whole_collection.specs.Ready.{counting}
use Rattle.explicit_collection.proofs.Slots.{counts-long, survey-none, survey-idle, survey-due}
use Rattle.explicit_whole_collection.proofs.slot.survey.Goals as goal

pub sound_at-requires : goal.sound_at-requires
sound_at-requires c = record { room = c.requires.bounds_value.1; known = c.requires.few.1 }

pub returns-then-not-sound_at : goal.returns-then-not-sound_at
returns-then-not-sound_at c =
    let lent : Cells = let a = c.args in counting a.totals.now a.counts.now in
    let a = c.args in record { value = survey-none (explicit_whole_lister a.bounds.now true) true a.updated a.due (lent) a.s a.x c.sound_at.result c.sound_at.ensures c.if-not-sound_at.true; more = (omega arith, omega arith, omega arith) }

pub returns-then-not-due : goal.returns-then-not-due
returns-then-not-due c =
    let lent : Cells = let a = c.args in counting a.totals.now a.counts.now in
    let a = c.args in record {
      value = survey-idle (explicit_whole_lister a.bounds.now true) true a.updated a.due (lent) a.s a.x c.sound_at.result c.sound_at.ensures c.if-not-sound_at.false
          c.if-not-due.true;
      more = (omega arith, omega arith, omega arith);
    }

pub one_more-requires : goal.one_more-requires
one_more-requires c =
    let few : c.bucket_count.result ≤ 160 = omega (arith, c.bucket_count.ensures, count-few c.args.bounds.now c.requires.bounds_value.0) in
    (c.requires.few.0, few)

pub returns : goal.returns
returns c =
    let lent : Cells = let a = c.args in counting a.totals.now a.counts.now in
    let few : c.bucket_count.result ≤ 160 = omega (arith, c.bucket_count.ensures, count-few c.args.bounds.now c.requires.bounds_value.0) in
    let a = c.args in record {
      value = c.one_more.ensures
          ∙ survey-due (explicit_whole_lister a.bounds.now true) true a.updated a.due (lent) a.s a.x c.sound_at.result c.sound_at.ensures c.if-not-sound_at.false
          c.if-not-due.false c.bucket_count.result
          (c.bucket_count.ensures ∙ sym (counts-long a.bounds.now a.counts.now a.x c.requires.bounds_value.1.counts a.updated)) refl;
      more = subst (λ (r : Survey). More a.s r) (sym c.one_more.ensures) (omega arith, omega (arith, few), omega arith);
    }
