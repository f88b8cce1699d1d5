-- A slot marked updated is the map with its entry's series put. Assumes nothing.
use Prim.Native.Nat.{ℕ, zero, suc, ◌<◌}
use mathlib.Core.Path.{◌≡◌, refl, ap, ◌∙◌}
use mathlib.Core.List.{List, [], ◌∷◌, map}
use lib.ListN.{length, get_or}
use lib.Seq.{get_or-set_same, get_or-set_other}
use Rattle.laws.specs.Pick.{pick}
use Rattle.tally.specs.Sets.{Rising}
use Rattle.tally.specs.Kind.{Kind}
use Rattle.tally.proofs.MapSteps.{put}
use Rattle.directory.specs.View.{Stores, set_at, entry_at}
use Rattle.directory.proofs.Rises.{In}
use Rattle.directory.proofs.Laws.{put-at}
use Rattle.seats.specs.Seats.{marked}
use Rattle.seats.proofs.Recording.{served}

module _ (K : Kind) (f h : ℕ → K.Series) (s : Stores) (x : ℕ) where
  abbrev s' : Stores
  s' = record { sets = s.sets; entries = marked s.entries x; order = s.order }

  -- other slots' entries stay
  mark-other : (y : ℕ) → (y ≡ x → ⊥) → h y ≡ f y → entry_at K h s' y ≡ entry_at K f s y
  unfolding marked
  mark-other zero n e = rw (get_or-set_other s.entries x zero (get_or (get_or s.entries x []) 0 0 ∷ get_or (get_or s.entries x []) 1 0 ∷ 1 ∷ []) [] n, e)
  mark-other (suc y) n e = rw (get_or-set_other s.entries x (suc y) (get_or (get_or s.entries x []) 0 0 ∷ get_or (get_or s.entries x []) 1 0 ∷ 1 ∷ []) [] n, e)

  mark-same : (y : ℕ) → y ≡ x → x < length s.entries → entry_at K h s' y ≡ served K (entry_at K f s y) (h y)
  unfolding marked pick
  mark-same zero e l = rw (← e, get_or-set_same s.entries zero (get_or (get_or s.entries zero []) 0 0 ∷ get_or (get_or s.entries zero []) 1 0 ∷ 1 ∷ []) [] (rw (← e) at l))
  mark-same (suc y) e l = rw (← e, get_or-set_same s.entries (suc y) (get_or (get_or s.entries (suc y) []) 0 0 ∷ get_or (get_or s.entries (suc y) []) 1 0 ∷ 1 ∷ []) [] (rw (← e) at l))

  -- its entry's series is the one that is there now
  pub mark-put : (l : List ℕ) → ((y : ℕ) → In y l → (y ≡ x → ⊥) → h y ≡ f y) → Rising (map (set_at s.sets) l) → In x l → x < length s.entries
      → map (entry_at K h s') l ≡ put K (served K (entry_at K f s x) (h x)) (map (entry_at K f s) l)
  mark-put l o r m n =
      put-at K (set_at s.sets) (entry_at K f s) (entry_at K h s') (λ y. refl) x refl l (λ y i q. mark-other y q (o y i q)) r m
      ∙ ap (λ e. put K e (map (entry_at K f s) l)) (mark-same x refl n)
