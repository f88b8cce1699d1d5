-- A recording goes to its own set's slot while the named sets, its own among them, are at most the limit: demand 3's premise. Assumes nothing.
use Rattle.std.specs.Prelude.{Ok}
use Prim.Native.Nat.{ℕ, suc, ◌+◌, ◌≤◌, ◌<◌}
use mathlib.Core.Path.{◌≡◌, refl, ap, sym, subst, ◌∙◌}
use mathlib.Core.Logic.{◌⊎◌, ⊎_elim}
use mathlib.Core.List.{List, []}
use mathlib.Core.Bool.{true}
use native.Mathlib.Omega.{arith}
use lib.ListN.{length, set}
use lib.Seq.{get_or-set_same}
use Rattle.laws.specs.Pick.{pick}
use Rattle.sets.specs.Rows.{set_of}
use Rattle.directory.specs.View.{Stores, set_at, agreesb, sought}
use Rattle.directory.specs.Calls.{Kept, located, admitted}
use Rattle.directory.specs.declared.Directory.{Directory}
use Rattle.directory.specs.declared.Target.{Target}
use Rattle.directory.specs.declared.Target.TheVariants.{Disagrees, Old, New, Over}
use Rattle.directory.proofs.Own.{held-set, own_old, no-over}
use Rattle.seats.specs.Seats.{seat_at, seated, committed, Seating}
use Rattle.seats.proofs.Commits.{commit-old}
use Rattle.seats.proofs.Seatings.{new-either}

-- a new slot holds the row's set
pub new-set : (sets : List (List ℕ)) (used : ℕ) (row : List ℕ) → used + 1 < length sets → set_at (set sets (used + 1) row) (used + 1) ≡ set_of row
new-set sets used row h =
    let e : suc used ≡ used + 1 = omega arith in
    subst (λ (x : ℕ). set_at (set sets x row) x ≡ set_of row) e (ap set_of (get_or-set_same sets (suc used) row [] (omega arith)))

module _ (limit : ℕ) (d : Directory) (s : Stores) (g : agreesb limit d s ≡ true) (ls : limit + 2 ≤ length s.sets) (row : List ℕ) where
  -- the slot has the row's set once the recording is committed
  abbrev Owns : Seating → Type 0
  Owns a = a.no ≡ 0 → set_at (committed d s row a.target).stores.sets a.slot ≡ set_of row

  old-owns : (x : ℕ) → set_at s.sets x ≡ set_of row → set_at (committed d s row (Old x)).stores.sets x ≡ set_of row
  old-owns x e = ap (λ (k : Kept). set_at k.stores.sets x) (commit-old d s row x) ∙ e

  new-owns : (r : ℕ) → d.used ≤ limit → set_at (committed d s row (New r)).stores.sets (d.used + 1) ≡ set_of row
  unfolding committed admitted
  new-owns r u = new-set s.sets d.used row (omega arith)

  -- with room for one more under the limit
  room-owns : d.used < limit → (t : Target) → located limit d s row ≡ t → Owns (seat_at d s t)
  room-owns u Disagrees e = λ n. absurd (omega arith)
  room-owns u (Old x) e = λ n. old-owns x (own_old limit d s g row u x e)
  room-owns u (New r) e = new-either d (New r) Owns (λ h n. absurd (omega arith)) (λ h n. new-owns r (omega arith))
  room-owns u (Over q) e = absurd (no-over limit d s g row u q e)

  -- and where the set is held
  held-at : (x : ℕ) → sought (set_of row) d.used s.sets s.order ≡ Ok x → located limit d s row ≡ Old x
  unfolding located pick
  held-at x e = rw (g, e)

  -- "the accepted ones on no more unlike named sets than the limit": the set is held, or the named sets held are fewer
  pub seat-owns : ((x : ℕ) × (sought (set_of row) d.used s.sets s.order ≡ Ok x)) ⊎ (d.used < limit) → Owns (seated limit d s row)
  unfolding seated
  seat-owns p =
      ⊎_elim (λ h. subst (λ t. Owns (seat_at d s t)) (sym (held-at h.0 h.1)) (λ n. old-owns h.0 (held-set limit d s g row h.0 h.1)))
      (λ u. room-owns u (located limit d s row) refl) p
