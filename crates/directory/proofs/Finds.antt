-- Turns of the scan for a handle, and the cases of where a call goes. Assumes nothing.
use Rattle.std.specs.Prelude.{Ok, Err, Result}
use Rattle.std.proofs.Common.{◌≡◌, ℕ, ◌+◌, ◌-◌, ◌<◌, ◌≤◌, Bool, true, false, ◌&&◌, eqb, ltb, List, [], ◌∷◌, get_or, sym, refl, subst, arith, ltb-true, le-ltb, lt-ltb, eq-eqb, ne_eqb}
use Rattle.laws.proofs.Cases.{and-true}
use Rattle.sets.specs.Rows.{span, set_of}
use Rattle.sets.proofs.Spans.{span_more, span_none, span-all}
use Rattle.directory.specs.Calls.{over_row, scan, located}
use Rattle.directory.specs.View.{Stores, birth_at, agreesb, sought}
use Rattle.directory.specs.declared.Directory.{Directory}
use Rattle.directory.specs.declared.Target.TheVariants.{Old, New, Over}
use Rattle.directory.proofs.Checks.{birth-named}
use Rattle.laws.specs.Pick.{pick}

module _ (birth bindings h : ℕ) where
  pub names-yes : birth ≡ h → 0 < bindings → true ≡ (eqb birth h && ltb 0 bindings)
  names-yes e l = rw (eq-eqb birth h e, lt-ltb 0 bindings l)

  pub names-unbound : birth ≡ h → bindings ≤ 0 → false ≡ (eqb birth h && ltb 0 bindings)
  names-unbound e l = rw (eq-eqb birth h e, le-ltb 0 bindings l)

  pub names-other : (birth ≡ h → ⊥) → false ≡ (eqb birth h && ltb 0 bindings)
  names-other n = rw (ne_eqb birth h n)

module _ (h : ℕ) (entries : List (List ℕ)) where
  pub scan-first : (l : List ℕ) → (eqb 0 h && ltb 0 (get_or (get_or entries 0 []) 1 0)) ≡ true → scan h entries (0 ∷ l) ≡ Ok 0
  unfolding pick
  scan-first l e = rw e

  pub scan-skip : (order : List ℕ) (used : ℕ) → (eqb 0 h && ltb 0 (get_or (get_or entries 0 []) 1 0)) ≡ false → scan h entries (0 ∷ span order 0 used) ≡ scan h entries (span order 0 (used - 0))
  unfolding pick
  scan-skip order used e = rw (e, span-all order used)

  module _ (order : List ℕ) (used i : ℕ) where
    pub scan-over : used ≤ i → scan h entries (span order i (used - i)) ≡ Err 0
    scan-over l = rw (span_none order i used l)

    module _ (l : i < used) (k : 1 ≤ get_or order i 0) where
      pub scan-here : (eqb (get_or (get_or entries (get_or order i 0) []) 0 0) h && ltb 0 (get_or (get_or entries (get_or order i 0) []) 1 0)) ≡ true → scan h entries (span order i (used - i)) ≡ Ok (get_or order i 0)
      unfolding pick
      scan-here e = rw (span_more order i used l, birth-named entries (get_or order i 0) k, e)

      pub scan-on : (eqb (get_or (get_or entries (get_or order i 0) []) 0 0) h && ltb 0 (get_or (get_or entries (get_or order i 0) []) 1 0)) ≡ false → scan h entries (span order i (used - i)) ≡ scan h entries (span order (i + 1) (used - (i + 1)))
      unfolding pick
      scan-on e = rw (span_more order i used l, birth-named entries (get_or order i 0) k, e)

-- what a scan finds has bindings
held-is : (x y : ℕ) → ◌≡◌ {A = Result ℕ ℕ} (Ok x) (Ok y) → x ≡ y
held-is x y e = cc

room-no : {A : Type 0} (r x : ℕ) → ◌≡◌ {A = Result ℕ ℕ} (Err r) (Ok x) → A
room-no r x e = let z : ◌≡◌ {A = ℕ} 0 1 = cc in absurd (omega arith)

module _ (h : ℕ) (entries : List (List ℕ)) (x : ℕ) where
  bound-step : (b : Bool) (y : ℕ) (l : List ℕ) → b ≡ (eqb (birth_at entries y) h && ltb 0 (get_or (get_or entries y []) 1 0)) → (scan h entries l ≡ Ok x → 0 < get_or (get_or entries x []) 1 0) → pick b (Ok y) (scan h entries l) ≡ Ok x → 0 < get_or (get_or entries x []) 1 0
  unfolding pick
  bound-step true y l t k e =
      subst (λ (j : ℕ). 0 < get_or (get_or entries j []) 1 0) (held-is y x e) (ltb-true 0 (get_or (get_or entries y []) 1 0) (and-true (eqb (birth_at entries y) h) (ltb 0 (get_or (get_or entries y []) 1 0)) (sym t)).1)
  bound-step false y l t k e = k e

  pub scan-bound : (l : List ℕ) → scan h entries l ≡ Ok x → 0 < get_or (get_or entries x []) 1 0
  scan-bound [] e = room-no 0 x e
  scan-bound (y ∷ l) e = bound-step (eqb (birth_at entries y) h && ltb 0 (get_or (get_or entries y []) 1 0)) y l refl (scan-bound l) e

-- where a call goes
module _ (limit : ℕ) (d : Directory) (s : Stores) (row : List ℕ) where
  module _ (g : agreesb limit d s ≡ true) where
    pub located-old : (x : ℕ) → sought (set_of row) d.used s.sets s.order ≡ Ok x → located limit d s row ≡ Old x
    unfolding located pick
    located-old x e = rw (g, e)

    module _ (r : ℕ) (e : sought (set_of row) d.used s.sets s.order ≡ Err r) where
      pub located-new : d.count < limit → located limit d s row ≡ New r
      unfolding located pick
      located-new h = rw (g, e, lt-ltb d.count limit h)

      pub located-over-old : limit ≤ d.count → (x : ℕ) → sought (set_of over_row) d.used s.sets s.order ≡ Ok x → located limit d s row ≡ Old x
      unfolding located pick
      located-over-old h x o = rw (g, e, le-ltb d.count limit h, o)

      pub located-over : limit ≤ d.count → (q : ℕ) → sought (set_of over_row) d.used s.sets s.order ≡ Err q → located limit d s row ≡ Over q
      unfolding located pick
      located-over h q o = rw (g, e, le-ltb d.count limit h, o)
