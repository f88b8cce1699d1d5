-- `sheet_writing::judge::shadow_found` meets its contract. Assumes nothing.
use mathlib.Core.Path.{sym, ap, ◌∙◌}
use Rattle.point.specs.declared.Point.{Point}
use Rattle.std.specs.Prelude.{Some}
use Rattle.whole_listing.proofs.Readers.{shadow_entry}
use Rattle.pooling.proofs.Whole.{bounded_in, bounded-out}
use Rattle.sheet_writing.specs.Inner.{shadow_found}
use Rattle.sheet_writing.proofs.judge.shadow_found.Goals as goal

pub returns-then-not-lie : goal.returns-then-not-lie
returns-then-not-lie c =
    let a = c.args in
    bounded-out a.many (shadow_found a.found) (shadow_entry c.in-Some.e) (ap shadow_found c.in-Some.is)
    (sym c.lie.ensures ∙ c.if-not-lie.true)

pub returns-else-not-lie : goal.returns-else-not-lie
returns-else-not-lie c =
    let a = c.args in
    ap (λ (q : Point). Some (record { point = q; bounds = c.in-Some.e.bounds; next = c.in-Some.e.next })) c.shadow_of-shadow.ensures
    ∙ bounded_in a.many (shadow_found a.found) (shadow_entry c.in-Some.e) (ap shadow_found c.in-Some.is) (sym c.lie.ensures ∙ c.if-not-lie.false)
