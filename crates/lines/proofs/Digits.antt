-- The decimal digits of a number, put from the last on before those that stand. Assumes nothing.
use Rattle.std.proofs.Common.{◌≡◌, ℕ, zero, suc, ◌+◌, ◌/◌, ◌%◌, ◌^◌, ◌<◌, ◌≤◌, List, [], ◌∷◌, ◌++◌, length, drop, set, sym, ap, ◌∙◌, div-lt_iff_lt-mul, pow-suc, append_assoc, add-one, arith, le-ltb, lt-ltb}
use Rattle.std.proofs.Math.ListN.{drop_of_length-le}
use Rattle.std.proofs.lemmas.List.{drop-set, append-nil}
use Rattle.laws.proofs.Bools.{pick_true, pick-false}
use Rattle.lines.specs.Written.{digits_within, decimal}

-- no number of one digit has a tenth part to go on with
pub more_room : (i x : ℕ) → x < 10 ^ suc i → 10 ≤ x → 1 ≤ i
more_room zero x h g = absurd (omega arith)
more_room (suc i) x h g = omega arith

pub tenth-fits : (i x : ℕ) → x < 10 ^ suc i → x / 10 < 10 ^ i
tenth-fits i x h = (div-lt_iff_lt-mul {k = 10} {x = x} {y = 10 ^ i} (omega arith)).1 (omega (arith, pow-suc 10 i))

drop-put : (out : List ℕ) (i v : ℕ) → i < length out → drop i (set out i v) ≡ v ∷ drop (suc i) out
drop-put out i v h = drop-set out i v h ∙ ap (λ (k : ℕ). v ∷ drop k out) (add-one i)

-- before any digit is put
pub begun : (out : List ℕ) (x : ℕ) → length out ≡ 20 → digits_within 20 x ++ drop 20 out ≡ decimal x
unfolding decimal
begun out x h = ap (λ (r : List ℕ). digits_within 20 x ++ r) (drop_of_length-le out {i = 20} (omega arith)) ∙ append-nil (digits_within 20 x)

-- the last digit of more than one
pub digit-turn : (out : List ℕ) (i x : ℕ) → i < length out → 10 ≤ x → digits_within i (x / 10) ++ drop i (set out i (48 + x % 10)) ≡ digits_within (suc i) x ++ drop (suc i) out
unfolding digits_within
digit-turn out i x h g =
    ap (λ (r : List ℕ). digits_within i (x / 10) ++ r) (drop-put out i (48 + x % 10) h)
    ∙ sym (append_assoc (digits_within i (x / 10)) ((48 + x % 10) ∷ []) (drop (suc i) out))
    ∙ ap (λ (r : List ℕ). r ++ drop (suc i) out) (sym (pick-false _ _ _ (le-ltb x 10 g)))

-- the only digit of those that are left
pub digit-first : (out : List ℕ) (i x : ℕ) → i < length out → x < 10 → drop i (set out i (48 + x)) ≡ digits_within (suc i) x ++ drop (suc i) out
unfolding digits_within
digit-first out i x h g =
    drop-put out i (48 + x) h
    ∙ ap (λ (r : List ℕ). r ++ drop (suc i) out) (sym (pick_true _ _ _ (lt-ltb x 10 g)))
