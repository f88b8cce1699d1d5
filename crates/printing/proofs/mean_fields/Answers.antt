-- `printing::mean_fields` meets its contract. Assumes nothing.
use Prim.Native.Nat.{ℕ}
use mathlib.Core.Path.{sym, ap}
use mathlib.Core.List.{[], ◌∷◌}
use lib.IntN.{ℤ}
use mir.Syntax.{w64}
use mir.Val.{SFits}
use mir.ValLaws.{to_z-of_z}
use Rattle.std.specs.Prelude.{Result}
use Rattle.refusals.specs.Refusals.{said, number}
use Rattle.refusals.specs.declared.Refusal.{Refusal}
use Rattle.lines.specs.Gathered.{waiting}
use Rattle.lines.specs.Written.{decimal, signed}
use Rattle.lines.proofs.Gathering.{then, spelt}
use Rattle.printing.specs.Fields.{each}
use Rattle.printing.specs.Printed.{mean_fields}
use Rattle.printing.proofs.Putting.{a-field, no_field}
use borrow.Author.Rules.{rules}
use Rattle.printing.proofs.mean_fields.Goals as goal

pub returns-in-Ok : goal.returns-in-Ok
returns-in-Ok c =
    let a = c.args in
    let t = waiting a.n a.text.now in
    let f : SFits w64 c.in-Ok.z = search rules in
    spelt (ap (λ (y : Result ℤ Refusal). each 32 (mean_fields (said y))) (sym c.in-Ok.is)) t
    (a-field 32 t (signed c.in-Ok.z) []
    (spelt (ap (λ (y : ℤ). 32 ∷ signed y) (to_z-of_z w64 c.in-Ok.z f)) t (then (32 ∷ []) _ t c.byte-a.ensures c.signed.ensures)) (no_field 32 _))

pub returns-in-Err : goal.returns-in-Err
returns-in-Err c =
    let a = c.args in
    let t = waiting a.n a.text.now in
    let no = decimal (number c.in-Err.no) in
    spelt (ap (λ (y : Result ℤ Refusal). each 32 (mean_fields (said y))) (sym c.in-Err.is)) t
    (a-field 32 t (33 ∷ []) (no ∷ []) c.bytes-a.ensures (a-field 32 _ no [] (spelt (ap (λ (k : ℕ). 32 ∷ decimal k) c.number.ensures) _ c.number-in-Err.ensures) (no_field 32 _)))
