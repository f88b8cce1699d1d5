-- A histogram's point is found where it lies in lent output, as it is stored. Assumes nothing.
use Prim.Native.Nat.{ℕ, ◌+◌}
use mathlib.Core.Path.{◌≡◌, sym, ap, ◌∙◌}
use mathlib.Core.List.{List}
use mathlib.Core.Option.{none, some, map}
use lib.ListN.{length}
use lib.Ieee.{Float}
use Rattle.points.specs.Handed.{Handed}
use Rattle.point.specs.Handing.{Stored, stored_in, handed_in}
use Rattle.point.specs.declared.Point.{Point}
use Rattle.listing.specs.Words.{words_of}
use Rattle.listing.specs.Listed.{pos_len, neg_len, bounds_at, stored_at, found_at}
use Rattle.listing.specs.declared.Cursor.{Cursor}
use Rattle.listing.specs.declared.Entry.{Entry}
use Rattle.std.specs.Prelude.{Option, Some, None}
use Rattle.listing.specs.declared.Span.{Span}
use Rattle.listing.proofs.Back.{Held}
use Rattle.listing.proofs.There.{point-there, stored_there}
use Rattle.collecting.specs.Slots.{behind_at}
use Rattle.collecting.proofs.Owed.{Finds}

pub finds-stored : (bounds : List Float) (p : Point) (b : Span) (ps ns : List ℕ) → Held p b → length ps ≡ pos_len p.figures b → length ns ≡ neg_len p.figures
    → Finds (found_at bounds) (words_of p b) ps ns (stored_in p (bounds_at b bounds) ps ns)
finds-stored bounds p b ps ns h x y at o l =
    ap (λ (f : Option Entry). elim f [ None ↦ none | Some e ↦ some (stored_at at e bounds o, e.next) ]) (point-there at p b ps ns o h x y l)
    ∙ (λ i. some (stored_there at p b ps ns o h x y l bounds i, record { place = at.place + 1; pos = at.pos + sym x i; neg = at.neg + sym y i }))

-- and as it is handed out
pub finds-handed : (bounds : List Float) (ws ps ns : List ℕ) (x : Stored) (y : Handed) → Finds (found_at bounds) ws ps ns x → handed_in x ≡ y
    → Finds (λ at o. map (λ (z : Stored × Cursor). (handed_in z.0, z.1)) (found_at bounds at o)) ws ps ns y
finds-handed bounds ws ps ns x y f e at o l =
    ap (map (λ (z : Stored × Cursor). (handed_in z.0, z.1))) (f at o l) ∙ (λ i. some (e i, behind_at at (length ps) (length ns)))
