-- Seatings by cases, and what one that is not refused guarantees. Assumes nothing.
use Rattle.std.specs.Prelude.{Ok, Err, Result, ℕ}
use Prim.Native.Nat.{ℕ, ◌+◌, ◌^◌, ◌≤◌, ◌<◌}
use mathlib.Core.Path.{◌≡◌, refl, ap, sym, subst}
use mathlib.Core.Logic.{⊎_elim}
use mathlib.Core.Bool.{Bool, true, false}
use mathlib.Core.List.{List}
use native.Mathlib.Omega.{arith}
use borrow.Author.Tests.{leb-true, leb-false, le-leb, lt-leb}
use lib.Dec.{leb}
use lib.ListN.{length}
use Rattle.laws.specs.Pick.{pick}
use Rattle.sets.specs.Rows.{set_of}
use Rattle.directory.specs.View.{Stores, agreesb}
use Rattle.directory.specs.Calls.{over_row, located, scan}
use Rattle.directory.specs.declared.Directory.{Directory}
use Rattle.directory.specs.declared.Target.{Target}
use Rattle.directory.specs.declared.Target.TheVariants.{Disagrees, Old, New, Over}
use Rattle.directory.proofs.Laws.{slots_of, few, slot-used, scan_in}
use Rattle.directory.proofs.Rises.{In}
use Rattle.directory.proofs.Located.{located-no, blank, counted, sought-held, told, new-there, over-there}
use Rattle.seats.specs.Seats.{away, new_seat, seat_at, seated, seat_by, seated_by, Seating}
use Rattle.seats.specs.Inner.{Roomy, Fits}

-- a new slot
module _ (d : Directory) (t : Target) where
  pub new-spent : 18446744073709551615 ≤ d.last → new_seat d t ≡ away 9
  unfolding new_seat pick
  new-spent h = rw (le-leb 18446744073709551615 d.last h)

  pub new-made : d.last < 18446744073709551615 → new_seat d t ≡ record { no = 0; slot = d.used + 1; updated = false; target = t }
  unfolding new_seat pick
  new-made h = rw (lt-leb 18446744073709551615 d.last h)

  -- what holds of both holds of the seating
  pub new-either : (P : Seating → Type 0) → (18446744073709551615 ≤ d.last → P (away 9))
      → (d.last < 18446744073709551615 → P (record { no = 0; slot = d.used + 1; updated = false; target = t })) → P (new_seat d t)
  new-either P a b = go (leb 18446744073709551615 d.last) refl
    where
      go : (b : Bool) → leb 18446744073709551615 d.last ≡ b → P (new_seat d t)
      go true e = let h = leb-true 18446744073709551615 d.last e in subst P (sym (new-spent h)) (a h)
      go false e = let h = leb-false 18446744073709551615 d.last e in subst P (sym (new-made h)) (b h)

-- what a seating guarantees, unless it is refused: a slot of the limit + 2 that each store has, and room for what is to be written
abbrev pub Safe : ℕ → Directory → Stores → Seating → Type 0
Safe limit d s a = a.no ≡ 0 → (a.slot ≤ limit + 1) × Fits d s a.target

-- the number of one that is refused comes with 8 or after it: 8, 9 by set and 8, 7 by handle
abbrev pub Late : Seating → Type 0
Late a = (a.no ≡ 0 → ⊥) → (7 ≤ a.no) × (a.no ≤ 9)

-- by set
module _ (limit : ℕ) (d : Directory) (s : Stores) (row : List ℕ) where
  pub seat-is : (t : Target) → located limit d s row ≡ t → seated limit d s row ≡ seat_at d s t
  unfolding seated
  seat-is t e = ap (seat_at d s) e

  pub seat-no : agreesb limit d s ≡ false → seated limit d s row ≡ away 8
  seat-no g = seat-is Disagrees (located-no limit d s row g)

  -- a slot that is held is one of those used
  pub old_in : (x : ℕ) → located limit d s row ≡ Old x → In x (slots_of d s)
  old_in x e =
      ⊎_elim (λ h. (sought-held blank (λ k. tt) tt d s (set_of row) x h).0) (λ h. (sought-held blank (λ k. tt) tt d s (set_of over_row) x h.3).0) (told limit d s row (Old x) e).1

  pub old-safe : (x : ℕ) → located limit d s row ≡ Old x → limit + 2 ≤ length s.entries → (x ≤ limit + 1) × (x < length s.entries)
  old-safe x e le =
      let g = (told limit d s row (Old x) e).0 in
      let u = slot-used limit d s g x (old_in x e) in
      (omega (arith, few limit d s g), omega (arith, few limit d s g))

  module _ (ls : limit + 2 ≤ length s.sets) (le : limit + 2 ≤ length s.entries) (lo : limit + 2 ≤ length s.order) (small : limit + 2 < 2 ^ 32) where
    roomy : (r : ℕ) → r ≤ d.used → d.used ≤ limit → d.count ≤ limit → d.last < 18446744073709551615 → Roomy d s r
    roomy r h u c l = record { sets = omega arith; entries = omega arith; order = omega arith; rank = h; slot = omega arith; last = omega arith; count = omega arith }

    safe : (t : Target) → located limit d s row ≡ t → Safe limit d s (seat_at d s t)
    safe Disagrees e = λ n. absurd (omega arith)
    safe (Old x) e = λ n. old-safe x e le
    safe (New r) e =
        let n = new-there limit d s row r e in
        new-either d (New r) (Safe limit d s) (λ h q. absurd (omega arith)) (λ h q. (omega (arith, n.1), roomy r n.0 n.1 (omega (arith, n.2)) h))
    safe (Over r) e =
        let n = over-there limit d s row r e in
        let c = (counted limit d s (told limit d s row (Over r) e).0).0 in
        new-either d (Over r) (Safe limit d s) (λ h q. absurd (omega arith)) (λ h q. (omega (arith, n.1), roomy r n.0 n.1 c h))

    pub seat-safe : Safe limit d s (seated limit d s row)
    unfolding seated
    seat-safe = safe (located limit d s row) refl

  pub seat-late : Late (seated limit d s row)
  unfolding seated
  seat-late = go (located limit d s row)
    where
      go : (t : Target) → Late (seat_at d s t)
      go Disagrees = λ n. (omega arith, omega arith)
      go (Old x) = λ n. absurd (n refl)
      go (New r) = new-either d (New r) Late (λ h n. (omega arith, omega arith)) (λ h n. absurd (n refl))
      go (Over r) = new-either d (Over r) Late (λ h n. (omega arith, omega arith)) (λ h n. absurd (n refl))

-- by handle
module _ (limit : ℕ) (d : Directory) (s : Stores) (h : ℕ) where
  pub by-no : agreesb limit d s ≡ false → seated_by limit d s h ≡ away 8
  unfolding seated_by pick
  by-no g = rw g

  pub by-is : agreesb limit d s ≡ true → (o : Result ℕ ℕ) → scan h s.entries (slots_of d s) ≡ o → seated_by limit d s h ≡ seat_by s o
  unfolding seated_by pick
  by-is g o e = rw (g, e)

  -- what holds of each case holds of the seating
  pub by-either : (P : Seating → Type 0) → (agreesb limit d s ≡ false → P (away 8))
      → (agreesb limit d s ≡ true → (o : Result ℕ ℕ) → scan h s.entries (slots_of d s) ≡ o → P (seat_by s o)) → P (seated_by limit d s h)
  by-either P away-is found-is = go (agreesb limit d s) refl
    where
      go : (b : Bool) → agreesb limit d s ≡ b → P (seated_by limit d s h)
      go false g = subst P (sym (by-no g)) (away-is g)
      go true g = subst P (sym (by-is g (scan h s.entries (slots_of d s)) refl)) (found-is g (scan h s.entries (slots_of d s)) refl)

  module _ (le : limit + 2 ≤ length s.entries) where
    pub by-there : agreesb limit d s ≡ true → (x : ℕ) → scan h s.entries (slots_of d s) ≡ Ok x → (x ≤ limit + 1) × (x < length s.entries)
    by-there g x e =
        let u = slot-used limit d s g x (scan_in h s.entries x (slots_of d s) e) in
        (omega (arith, few limit d s g), omega (arith, few limit d s g))

    pub by-safe : Safe limit d s (seated_by limit d s h)
    by-safe = by-either (Safe limit d s) (λ g n. absurd (omega arith)) found
      where
        found : agreesb limit d s ≡ true → (o : Result ℕ ℕ) → scan h s.entries (slots_of d s) ≡ o → Safe limit d s (seat_by s o)
        found g (Err r) e = λ n. absurd (omega arith)
        found g (Ok x) e = λ n. by-there g x e

  pub by-late : Late (seated_by limit d s h)
  by-late = by-either Late (λ g n. (omega arith, omega arith)) (λ g o e. found o)
    where
      found : (o : Result ℕ ℕ) → Late (seat_by s o)
      found (Err r) = λ n. (omega arith, omega arith)
      found (Ok x) = λ n. absurd (n refl)
