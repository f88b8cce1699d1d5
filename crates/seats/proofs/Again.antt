-- AGAIN. Where a recording by a handle was taken, the next one by it goes to the same slot, which then holds a series; and marking a slot
-- twice is marking it once. Assumes nothing.
use Rattle.std.specs.Prelude.{Ok, Err, Result, ℕ}
use Prim.Native.Nat.{ℕ, ◌+◌, ◌≤◌, ◌<◌}
use mathlib.Core.Path.{◌≡◌, refl, ap, sym, subst, ◌∙◌}
use mathlib.Core.Bool.{true, not, ◌&&◌}
use mathlib.Core.List.{List, [], ◌∷◌}
use native.Mathlib.Omega.{arith}
use lib.Dec.{eqb, ltb}
use lib.ListN.{length, get_or, set}
use lib.Seq.{get_or-set_same, set-set}
use Rattle.laws.specs.Pick.{pick}
use Rattle.directory.specs.View.{Stores, agreesb, updated_in}
use Rattle.directory.specs.Calls.{Kept, scan}
use Rattle.directory.specs.declared.Directory.{Directory}
use Rattle.directory.specs.declared.Target.TheVariants.{Old}
use Rattle.directory.proofs.Laws.{slots_of}
use Rattle.seats.specs.Seats.{seat_by, seated_by, marked, marked_in, committed, Seating}
use Rattle.seats.proofs.Commits.{commit-old}
use Rattle.seats.proofs.Seatings.{by-is, by-there}
use Rattle.seats.proofs.Keeps.{marked_births, marked-bindings}

-- the seat of one who was here before: it holds a series
abbrev pub again : Seating → Seating
again a = record { no = 0; slot = a.slot; updated = true; target = a.target }

module _ (entries : List (List ℕ)) (x : ℕ) (h : x < length entries) where
  -- a handle names the slot that it named
  scan-marked : (b : ℕ) (l : List ℕ) → scan b (marked entries x) l ≡ scan b entries l
  scan-marked b [] = refl
  scan-marked b (y ∷ l) =
      λ j. pick (eqb (marked_births entries x h y j) b && ltb 0 (marked-bindings entries x h y j)) (Ok y) (scan-marked b l j)

  marked-updated : updated_in (marked entries x) x ≡ true
  unfolding marked
  marked-updated = ap (λ (r : List ℕ). not (eqb (get_or r 2 0) 0)) (get_or-set_same entries x (get_or (get_or entries x []) 0 0 ∷ get_or (get_or entries x []) 1 0 ∷ 1 ∷ []) [] h)

  pub marked-twice : marked (marked entries x) x ≡ marked entries x
  unfolding marked
  marked-twice =
      let new : List ℕ = get_or (get_or entries x []) 0 0 ∷ get_or (get_or entries x []) 1 0 ∷ 1 ∷ [] in
      let g = get_or-set_same entries x new [] h in
      ap (λ (r : List ℕ). set (set entries x new) x (get_or r 0 0 ∷ get_or r 1 0 ∷ 1 ∷ [])) g ∙ set-set entries x new new

module _ (limit : ℕ) (d : Directory) (s : Stores) (b : ℕ) (row : List ℕ) (le : limit + 2 ≤ length s.entries) (g : agreesb limit d s ≡ true) where
  -- what is claimed of where the handle was found
  abbrev pub Claim : Seating → Type 0
  Claim a =
      a.no ≡ 0 → agreesb limit (committed d s row a.target).dir (committed d s row a.target).stores ≡ true
      → seated_by limit (committed d s row a.target).dir (committed d s row a.target).stores b ≡ again a

  found : (o : Result ℕ ℕ) → scan b s.entries (slots_of d s) ≡ o → Claim (seat_by s o)
  found (Err r) e n q = absurd (omega (arith, n))
  found (Ok x) e n q =
      let k = marked_in (record { dir = d; stores = s }) x in
      let h = (by-there limit d s b le g x e).1 in
      let c = commit-old d s row x in
      let q' : agreesb limit k.dir k.stores ≡ true = subst (λ (j : Kept). agreesb limit j.dir j.stores ≡ true) c q in
      ap (λ (j : Kept). seated_by limit j.dir j.stores b) c
      ∙ by-is limit k.dir k.stores b q' (Ok x) (scan-marked s.entries x h b (slots_of d s) ∙ e)
      ∙ (λ j. record { no = 0; slot = x; updated = marked-updated s.entries x h j; target = Old x })

  pub by-again : Claim (seated_by limit d s b)
  by-again = subst Claim (sym (by-is limit d s b g (scan b s.entries (slots_of d s)) refl)) (found (scan b s.entries (slots_of d s)) refl)

  -- what is committed there is the slot marked
  abbrev pub Marks : Seating → Type 0
  Marks a = a.no ≡ 0 → (committed d s row a.target ≡ marked_in (record { dir = d; stores = s }) a.slot) × (a.slot < length s.entries)

  found-marks : (o : Result ℕ ℕ) → scan b s.entries (slots_of d s) ≡ o → Marks (seat_by s o)
  found-marks (Err r) e n = absurd (omega (arith, n))
  found-marks (Ok x) e n = (commit-old d s row x, (by-there limit d s b le g x e).1)

  pub by-marks : Marks (seated_by limit d s b)
  by-marks = subst Marks (sym (by-is limit d s b g (scan b s.entries (slots_of d s)) refl)) (found-marks (scan b s.entries (slots_of d s)) refl)
