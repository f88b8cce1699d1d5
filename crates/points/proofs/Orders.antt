-- Recording one by one, and the order of the values: the point of all values comes out. Assumes nothing.
use Prim.Native.Nat.{ℕ, max}
use mathlib.Core.Path.{◌≡◌, refl, ap, sym, subst, ◌∙◌}
use mathlib.Core.List.{List, [], ◌∷◌, ◌++◌, append-nil, append_assoc, Permᴰ}
use native.Mathlib.Omega.{arith}
use Rattle.laws.proofs.Same.{sum_append}
use Rattle.points.specs.Points.{Bag, ◌⊕◌, none, one, bag_of, Point, scale, build, point_of, record1, Value, naught, plus, minus}
use Rattle.points.proofs.Merge.{Equal, build_equal, build_absorb, bag_of_append, ⊕-assoc, equal-comm}

-- ---- the order of the values
equal-refl : (b : Bag) → Equal b b
equal-refl b = record { pos = λ w. refl; neg = λ w. refl; zeros = refl; total = refl }

equal-trans : (a b c : Bag) → Equal a b → Equal b c → Equal a c
equal-trans a b c h k =
    record { pos = λ w. h.pos w ∙ k.pos w; neg = λ w. h.neg w ∙ k.neg w; zeros = h.zeros ∙ k.zeros; total = h.total ∙ k.total }

equal_⊕ : (a b c d : Bag) → Equal a b → Equal c d → Equal (a ⊕ c) (b ⊕ d)
equal_⊕ a b c d h k =
    record {
      pos = λ w. omega (arith, h.pos w, k.pos w, sum_append w a.pos c.pos, sum_append w b.pos d.pos);
      neg = λ w. omega (arith, h.neg w, k.neg w, sum_append w a.neg c.neg, sum_append w b.neg d.neg);
      zeros = omega (arith, h.zeros, k.zeros);
      total = omega (arith, h.total, k.total);
    }

equal-swap : (a b c : Bag) → Equal (a ⊕ (b ⊕ c)) (b ⊕ (a ⊕ c))
equal-swap a b c =
    rw (← ⊕-assoc a b c, ← ⊕-assoc b a c) (equal_⊕ (a ⊕ b) (b ⊕ a) c c (equal-comm a b) (equal-refl c))

bag_of-perm : {xs ys : List Value} → Permᴰ xs ys → Equal (bag_of xs) (bag_of ys)
bag_of-perm Permᴰ.nil = equal-refl none
bag_of-perm (Permᴰ.cons {a = a} {b = b} {l₁ = l} {l₂ = m} e h) =
    equal_⊕ (one a) (one b) (bag_of l) (bag_of m) (subst (λ c. Equal (one a) (one c)) e (equal-refl (one a))) (bag_of-perm h)
bag_of-perm (Permᴰ.swap {a = a} {b = b} {a' = c} {b' = d} {l = l} e g) =
    rw (e, g) (equal-swap (one d) (one c) (bag_of l))
bag_of-perm (Permᴰ.trans {l₁ = l} {l₂ = m} {l₃ = n} h k) = equal-trans (bag_of l) (bag_of m) (bag_of n) (bag_of-perm h) (bag_of-perm k)

pub point_of-perm : (size d : ℕ) {xs ys : List Value} → Permᴰ xs ys → point_of size d xs ≡ point_of size d ys
unfolding point_of
point_of-perm size d {xs} {ys} h = build_equal size d d (bag_of xs) (bag_of ys) refl (bag_of-perm h)

-- ---- recording values one by one
abbrev pub record_all : ℕ → Point → List Value → Point
record_all size p [] = p
record_all size p (v ∷ vs) = record_all size (record1 size p v) vs

record-build : (size d : ℕ) (b : Bag) (v : Value) → record1 size (build size d b) v ≡ build size d (b ⊕ one v)
unfolding record1 build
record-build size d b v =
    let e : max (scale size d b) 0 ≡ scale size d b = omega arith in
    let f : max d 0 ≡ d = omega arith in
    rw (e, f) at (build_absorb size size d 0 b (one v) (omega arith))

one_none : (v : Value) → one v ⊕ none ≡ one v
one_none naught = refl
one_none (plus i) = refl
one_none (minus i) = refl

pub record-point_of : (size d : ℕ) (xs : List Value) (v : Value) → record1 size (point_of size d xs) v ≡ point_of size d (xs ++ v ∷ [])
unfolding point_of
record-point_of size d xs v =
    record-build size d (bag_of xs) v
    ∙ ap (λ b. build size d b) (ap (λ b. bag_of xs ⊕ b) (sym (one_none v)) ∙ sym (bag_of_append xs (v ∷ [])))

pub record_all-point_of : (size d : ℕ) (xs vs : List Value) → record_all size (point_of size d xs) vs ≡ point_of size d (xs ++ vs)
record_all-point_of size d xs [] = ap (λ l. point_of size d l) (sym (append-nil xs))
record_all-point_of size d xs (v ∷ vs) =
    rw (record-point_of size d xs v) (record_all-point_of size d (xs ++ v ∷ []) vs ∙ ap (λ l. point_of size d l) (append_assoc xs (v ∷ []) vs))
