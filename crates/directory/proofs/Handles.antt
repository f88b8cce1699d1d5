-- The slot with a handle's birth number and bindings is what a scan for the handle finds; where numbers rise, a halving finds it too.
-- Assumes nothing.
use Rattle.std.specs.Prelude.{Ok, Err}
use Rattle.std.proofs.Common.{◌≡◌, ℕ, zero, suc, ◌≤◌, Bool, true, false, ◌&&◌, eqb, ltb, List, [], ◌∷◌, get_or, sym, refl, ap, ◌∙◌, inl, inr, ⊎_elim, arith, eqb-true}
use Rattle.laws.specs.Pick.{pick}
use Rattle.laws.proofs.Cases.{and-true, true-not-false}
use Rattle.directory.specs.Calls.{scan}
use Rattle.directory.specs.Inner.{BirthsRise, LastBorn}
use Rattle.directory.specs.View.{Stores, birth_at, agreesb}
use Rattle.directory.specs.declared.Directory.{Directory}
use Rattle.directory.proofs.Births.{born-only}
use Rattle.directory.proofs.Covers.{covers}
use Rattle.directory.proofs.Laws.{slots_of, slot-used}
use Rattle.directory.proofs.Rises.{In}
use Rattle.directory.proofs.Sentence.{own-birth}

abbrev named : ℕ → List (List ℕ) → ℕ → Bool
named h entries y = eqb (birth_at entries y) h && ltb 0 (get_or (get_or entries y []) 1 0)

module _ (h : ℕ) (entries : List (List ℕ)) (x : ℕ) where
  step : (b : Bool) (y : ℕ) (l : List ℕ) → (b ≡ true → y ≡ x) → (b ≡ false → scan h entries l ≡ Ok x) → pick b (Ok y) (scan h entries l) ≡ Ok x
  unfolding pick
  step true y l f g = ap Ok (f refl)
  step false y l f g = g refl

  scan-only : named h entries x ≡ true → (l : List ℕ) → In x l → ((y : ℕ) → In y l → named h entries y ≡ true → y ≡ x) → scan h entries l ≡ Ok x
  scan-only e [] m f = absurd m
  scan-only e (y ∷ l) m f =
      step (named h entries y) y l (λ q. f y (inl refl) q)
      (λ q. scan-only e l (⊎_elim (λ z. true-not-false (sym e ∙ ap (named h entries) z ∙ q)) (λ n. n) m) (λ w n. f w (inr n)))

scan-none : (h : ℕ) (entries : List (List ℕ)) (l : List ℕ) → ((y : ℕ) → In y l → named h entries y ≡ false) → scan h entries l ≡ Err 0
unfolding pick
scan-none h entries [] f = refl
scan-none h entries (y ∷ l) f = rw (f y (inl refl)) (scan-none h entries l (λ z m. f z (inr m)))

born : (h : ℕ) (entries : List (List ℕ)) (y : ℕ) → named h entries y ≡ true → birth_at entries y ≡ h
born h entries y q = eqb-true _ _ (and-true (eqb (birth_at entries y) h) _ q).0

module _ (limit : ℕ) (d : Directory) (s : Stores) (g : agreesb limit d s ≡ true) (h : ℕ) where
  slot_in : (x : ℕ) → x ≤ d.used → In x (slots_of d s)
  slot_in zero u = inl refl
  slot_in (suc x) u = inr (covers limit d s g (suc x) (omega arith) u)

  pub scan-own : (x : ℕ) → x ≤ d.used → named h s.entries x ≡ true → scan h s.entries (slots_of d s) ≡ Ok x
  scan-own x u e =
      scan-only h s.entries x e (slots_of d s) (slot_in x u)
      (λ y m q. own-birth limit d s g y x (slot-used limit d s g y m) u (born h s.entries y q ∙ sym (born h s.entries x e)))

  -- where birth numbers rise, the last slot that was born by h is the only one that the handle can name
  pub scan-last : BirthsRise d.used s.entries → (x : ℕ) → LastBorn h d.used s.entries x → named h s.entries x ≡ false
      → scan h s.entries (slots_of d s) ≡ Err 0
  scan-last up x l e = scan-none h s.entries (slots_of d s) (λ y m. go y (slot-used limit d s g y m) (named h s.entries y) refl)
    where
      go : (y : ℕ) → y ≤ d.used → (b : Bool) → named h s.entries y ≡ b → b ≡ false
      go y u true q =
          true-not-false (sym q ∙ ap (named h s.entries) (born-only d.used s.entries up h x l y u (born h s.entries y q)) ∙ e)
      go y u false q = refl
