-- The numbers of a recording over i64, by those over f64. Assumes nothing.
use Prim.Native.Nat.{ℕ, ◌^◌, ◌≤◌, ◌<◌}
use mathlib.Core.Path.{◌≡◌, refl, sym, ap, ◌∙◌}
use mathlib.Core.Bool.{Bool, true, false}
use mathlib.Core.List.{List}
use native.Mathlib.Omega.{arith}
use borrow.Author.Tests.{ltb-true}
use lib.IntN.{ℤ, pos, +ℤ_idl}
use lib.ListN.{length}
use lib.Signed.{mag}
use lib.Ieee.{Float, of_bits}
use lib.Ieee.Bits.{is_true}
use lib.Ieee.Scale.{finite}
use Rattle.laws.specs.Pick.{pick}
use Rattle.laws.specs.Counting.{most_count}
use Rattle.laws.specs.Said.{refusal}
use Rattle.floats.specs.Starts.{zero_float}
use Rattle.integers.specs.Answers.{nearest_of, in_range, last_number}
use Rattle.integers.proofs.NoNearer.{nearest-is}
use Rattle.points.specs.Explicit.{bucket_count, buckets_agree, record_bucket}
use Rattle.points.specs.Whole.{whole}
use Rattle.explicit.specs.Series as S
use Rattle.explicit.specs.Series.{buckets_in}
use Rattle.explicit.proofs.Cases as E
use Rattle.explicit_wholes.specs.declared.Head.{Head}
use Rattle.explicit_wholes.specs.Series.{under, refusal_of, outcome, accepted, recording}
use Rattle.explicit_wholes.proofs.Call as W
use Rattle.kinds.specs.Wholes.{wholes}

zero-finite : finite zero_float ≡ true
unfolding of_bits
zero-finite = refl

near-finite : (v : ℤ) → wholes.finite v ≡ true → finite (nearest_of v) ≡ true
near-finite v h = is_true (finite (nearest_of v)) (nearest-is v (ltb-true (mag v) (2 ^ 63) h)).finite.known

-- a first value's sum is the value
pub zero-takes : (sums : Bool) (v : ℤ) → wholes.finite v ≡ true → whole.takes sums (pos 0) v ≡ true
unfolding pick
zero-takes true v h = ap in_range (+ℤ_idl v) ∙ h
zero-takes false v h = refl

module _ (bs : List Float) (sums : Bool) (h : Head) (xs : List ℕ) (v : ℤ) where
  pub refused_law : (n : ℕ) → n ≡ refusal_of bs sums h xs v → (n ≡ 0 → ⊥) → outcome (refusal n) xs ≡ recording bs sums h xs v
  refused_law n e z = W.gives_up bs sums h xs v n (sym e) z

  pub accepted-is : refusal_of bs sums h xs v ≡ 0 → recording bs sums h xs v ≡ accepted (record_bucket bs (buckets_in bs h.count xs) (nearest_of v)) sums h xs v
  accepted-is e = W.goes_on bs sums h xs v e

  module _ (l : bucket_count bs ≤ length xs) (f : wholes.finite v ≡ true) where
    pub disagrees : buckets_agree bs (buckets_in bs h.count xs) ≡ false → 8 ≡ refusal_of bs sums h xs v
    disagrees a =
        let b = E.disagrees bs (under h.count) xs (nearest_of v) l (near-finite v f) a in
        b ∙ sym (W.number-before bs sums h xs v (λ q. omega (arith, b, q)))

    module _ (a : buckets_agree bs (buckets_in bs h.count xs) ≡ true) where
      pub full-refused : most_count ≤ h.count → 9 ≡ refusal_of bs sums h xs v
      full-refused d =
          let b = E.full bs (under h.count) xs (nearest_of v) l (near-finite v f) a zero-finite zero-finite d in
          b ∙ sym (W.number-before bs sums h xs v (λ q. omega (arith, b, q)))

      free : h.count < most_count → S.refusal_of bs (under h.count) xs (nearest_of v) ≡ 0
      free d = sym (E.none bs (under h.count) xs (nearest_of v) l (near-finite v f) a zero-finite zero-finite d)

      pub none-refused : h.count < most_count → whole.takes sums h.sum v ≡ true → refusal_of bs sums h xs v ≡ 0
      none-refused d t = W.number-none bs sums h xs v (free d) t

      pub barred-refused : h.count < most_count → whole.takes sums h.sum v ≡ false → 16 ≡ refusal_of bs sums h xs v
      unfolding pick
      barred-refused d t = sym (W.number-last bs sums h xs v t ∙ ap last_number (free d))
