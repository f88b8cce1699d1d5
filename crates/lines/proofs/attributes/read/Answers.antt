-- `lines::attributes::read` meets its contract. Assumes nothing.
use mathlib.Core.Path.{◌≡◌, sym, ap, ◌∙◌}
use mathlib.Core.List.{List, []}
use Rattle.laws.proofs.Bools.{pick_true, pick-false}
use Rattle.lines.specs.Spelled.{parts, attributes_of, spelled, told, kept}
use Rattle.std.specs.Prelude.{Option}
use Prim.Native.Nat.{ℕ}
use Rattle.lines.proofs.attributes.read.Goals as goal

pub returns-then-is_dash : goal.returns-then-is_dash
unfolding spelled told kept
returns-then-is_dash c =
    let a = c.args in
    let e : spelled a.bytes.now ≡ [] = pick_true _ _ _ (sym c.is_dash.ensures ∙ c.if-is_dash.true) in record { value = sym (ap (told 0) e); attrs_after = sym (ap (λ (r : List (Option (List ℕ))). kept 0 r a.attrs.now) e) }

pub returns : goal.returns
unfolding spelled
returns c =
    let a = c.args in
    let e : spelled a.bytes.now ≡ attributes_of (parts a.bytes.now) = pick-false _ _ _ (sym c.is_dash.ensures ∙ c.if-is_dash.false) in record { value = c.several.ensures.value ∙ sym (ap (told 0) e); attrs_after = c.several.ensures.attrs_after ∙ sym (ap (λ (r : List (Option (List ℕ))). kept 0 r a.attrs.now) e) }
