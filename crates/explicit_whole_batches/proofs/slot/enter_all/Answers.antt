-- `slot::enter_all` meets its contract. Assumes nothing.
use mathlib.Core.Path.{◌≡◌, sym, subst, ◌∙◌}
use mathlib.Core.Bool.{true}
use Rattle.explicit_batches.specs.Values.{Counted}
use Rattle.explicit_whole_batches.specs.Values.{Series}
use Rattle.explicit_whole_batches.specs.Slot.{agrees_if}
use Rattle.explicit_whole_batches.proofs.Entered.{begun-counted, enters_8, enters}
use Rattle.explicit_whole_batches.proofs.slot.enter_all.Goals as goal

pub agrees_if-requires : goal.agrees_if-requires
agrees_if-requires c = c.requires.2

pub returns-then-not-agrees_if : goal.returns-then-not-agrees_if
returns-then-not-agrees_if c =
    let a = c.args in
    enters_8 a.bounds.now a.head a.counts.now a.sums a.updated a.values.now (sym c.agrees_if.ensures ∙ c.if-not-agrees_if.true)

pub begin-from-requires : goal.begin-from-requires
begin-from-requires c = c.requires.1

pub record_all-requires : goal.record_all-requires
record_all-requires c =
    let agreed : (let a = c.args in agrees_if a.bounds.now a.updated a.head.count a.counts.now ≡ true) = sym c.agrees_if.ensures ∙ c.if-not-agrees_if.false in
    let a = c.args in
    subst (λ (y : Series). Counted a.bounds.now y.head.count y.counts) (sym c.begin-from.ensures) (begun-counted a.bounds.now a.head a.counts.now c.requires.0 c.requires.1 a.updated (agreed))

pub returns : goal.returns
returns c =
    let agreed : (let a = c.args in agrees_if a.bounds.now a.updated a.head.count a.counts.now ≡ true) = sym c.agrees_if.ensures ∙ c.if-not-agrees_if.false in
    let a = c.args in
    c.record_all.ensures
    ∙ enters a.bounds.now a.head a.counts.now a.sums a.updated a.values.now (agreed) (record { head = c.begin-from.result; counts = c.begin-from.new.counts }) c.begin-from.ensures
