-- The offset of a row, case by case. Assumes nothing.
use Prim.Native.Nat.{ℕ}
use mathlib.Core.Path.{◌≡◌, ap}
use mathlib.Core.Bool.{Bool}
use lib.IntN.{pos}
use borrow.Author.Tests.{eq-eqb, ne_eqb}
use Rattle.laws.specs.Pick.{pick}
use Rattle.index.specs.Signed.{index_answer}
use Rattle.std.specs.Prelude.{Some}
use Rattle.rows.specs.declared.Row.{Row}
use Rattle.point.specs.Signed.{offset_answer}

module _ (level : ℕ) (r : Row) where
  pub offset-empty : r.len ≡ 0 → offset_answer level r ≡ Some (pos 0)
  unfolding offset_answer pick
  offset-empty e = ap (λ (b : Bool). pick b (Some (pos 0)) (index_answer level r.start)) (eq-eqb r.len 0 e)

  pub offset-there : (r.len ≡ 0 → ⊥) → offset_answer level r ≡ index_answer level r.start
  unfolding offset_answer pick
  offset-there e = ap (λ (b : Bool). pick b (Some (pos 0)) (index_answer level r.start)) (ne_eqb r.len 0 e)
