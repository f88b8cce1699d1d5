-- One f64 more, read from the words of a sheet. Assumes nothing.
use Prim.Native.Nat.{ℕ, ◌+◌, ◌<◌}
use mathlib.Core.Path.{◌≡◌, sym, ap, ap₂, ◌∙◌}
use mathlib.Core.List.{List, [], ◌∷◌, ◌++◌, map, map-append}
use native.Mathlib.Numerals.{add-one}
use lib.Ieee.{Float, binary64, of_bits}
use lib.ListN.{length, set, take}
use lib.Seq.{take-suc-set}
use Rattle.laws.specs.Counting.{table}
use Rattle.records.proofs.Laid.{table_more}

pub turn_floats : (f : ℕ → ℕ) (k i : ℕ) (out : List Float) (b : ℕ) (x : Float) → i < length out → take i out ≡ map (of_bits binary64) (table f k i)
    → b ≡ f (k + i) → x ≡ of_bits binary64 b → take (i + 1) (set out i x) ≡ map (of_bits binary64) (table f k (i + 1))
turn_floats f k i out b x h e q r =
    ap (λ (j : ℕ). take j (set out i x)) (add-one i)
    ∙ take-suc-set out i x h
    ∙ ap₂ (λ (u : List Float) (y : Float). u ++ (y ∷ [])) e (r ∙ ap (of_bits binary64) q)
    ∙ sym (map-append (of_bits binary64) (table f k i) (f (k + i) ∷ []))
    ∙ ap (map (of_bits binary64)) (sym (table_more f k i) ∙ ap (table f k) (sym (add-one i)))
