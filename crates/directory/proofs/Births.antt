-- Birth numbers that rise along the slots: what a halving learns of them. Assumes nothing.
use Rattle.std.proofs.Common.{◌≡◌, ℕ, zero, suc, ◌+◌, ◌-◌, ◌<◌, ◌≤◌, Bool, true, false, leb, List, [], get_or, refl, subst, ⊎_elim, eq-or-lt_of_le, arith, leb-false, leb-true}
use Rattle.directory.specs.Inner.{BirthsRise, LastBorn}
use Rattle.directory.specs.View.{Stores, birth_at, agreesb}
use Rattle.directory.specs.declared.Directory.{Directory}
use Rattle.directory.proofs.Agreed.{birth-rise}
use Rattle.directory.proofs.Checks.{birth-named}
use Rattle.directory.proofs.Laws.{slots-right}

-- they do where the directory agrees
pub agreed-rise : (limit : ℕ) (d : Directory) (s : Stores) → agreesb limit d s ≡ true → BirthsRise d.used s.entries
agreed-rise limit d s g = birth-rise d.used d.last s.sets s.entries (slots-right limit d s g)

module _ (used : ℕ) (entries : List (List ℕ)) (up : BirthsRise used entries) where
  climb : (x k : ℕ) → x + suc k ≤ used → birth_at entries x < birth_at entries (x + suc k)
  climb x zero h = let e : x + 1 ≡ x + suc zero = omega arith in subst (λ (n : ℕ). birth_at entries x < birth_at entries n) e (up x (omega arith))
  climb x (suc k) h =
      let e : x + suc k + 1 ≡ x + suc (suc k) = omega arith in
      let a = climb x k (omega arith) in
      let b = up (x + suc k) (omega arith) in
      subst (λ (n : ℕ). birth_at entries x < birth_at entries n) e (omega arith)

  -- a later slot was born later
  pub rises : (x y : ℕ) → x < y → y ≤ used → birth_at entries x < birth_at entries y
  rises x y h u =
      let e : x + suc (y - x - 1) ≡ y = omega arith in
      subst (λ (n : ℕ). birth_at entries x < birth_at entries n) e (climb x (y - x - 1) (omega arith))

  module _ (h : ℕ) where
    -- behind a slot that was born after h all were
    pub behind : (m : ℕ) → 1 ≤ m → h < get_or (get_or entries m []) 0 0 → (y : ℕ) → m ≤ y → y ≤ used → h < birth_at entries y
    behind m a l y b u =
        let e = birth-named entries m a in
        ⊎_elim (λ q. subst (λ (n : ℕ). h < birth_at entries n) q (omega (arith, e, l))) (λ q. let r = rises m y q u in omega (arith, e, l, r)) (eq-or-lt_of_le b)

    -- no other slot than the last that was born by h has the number h
    pub born-only : (x : ℕ) → LastBorn h used entries x → (y : ℕ) → y ≤ used → birth_at entries y ≡ h → y ≡ x
    born-only x l y u e = go (leb y x) refl
      where
        go : (b : Bool) → leb y x ≡ b → y ≡ x
        go true q = ⊎_elim (λ p. p) (λ p. absurd (let z = rises y x p l.there in omega (arith, e, z, l.born))) (eq-or-lt_of_le (leb-true y x q))
        go false q = absurd (let z = l.later y (leb-false y x q) u in omega (arith, e, z))
