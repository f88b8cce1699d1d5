-- What a point of i64 values at a cursor is: its shadow is whole in the list of the shadows, and no point of f64 values lies there. Assumes nothing.
use Prim.Native.Nat.{ℕ, ◌+◌}
use mathlib.Core.Path.{◌≡◌, refl, sym, ap, subst, ◌∙◌}
use mathlib.Core.Bool.{Bool, true, false}
use mathlib.Core.List.{List, []}
use lib.Dec.{leb}
use lib.ListN.{length, get_or}
use Rattle.laws.specs.Pick.{pick}
use Rattle.laws.proofs.Bools.{not-both, pick_true, pick-false}
use Rattle.laws.proofs.Cases.{true-not-false}
use Rattle.listing.specs.Listed.{point_at}
use Rattle.listing.specs.declared.Cursor.{Cursor}
use Rattle.listing.specs.declared.Entry as LE
use Rattle.std.specs.Prelude.{Option, Some, None}
use Rattle.whole_listing.specs.Listed as WL
use Rattle.whole_listing.specs.Listed.{is_whole}
use Rattle.whole_listing.specs.declared.Entry.{Entry}
use Rattle.whole_listing.proofs.There.{shadow_output}
use Rattle.whole_listing.proofs.Readers as Readers
use Rattle.whole_listing.proofs.Readers.{Told, shadow-found, kind-real, whole-told}
use Rattle.pooling.specs.Lists.{Source, bounded, whole_at, bounded_integer, integer_at}
use Rattle.pooling.specs.Entries.{Whole, shadow_entry}
use Rattle.pooling.proofs.Whole.{bounded_in, point-told, whole-lies}

abbrev present : Option Entry → Bool
present None = false
present (Some e) = true

abbrev entry_or : Entry → Option Entry → Entry
entry_or d None = d
entry_or d (Some e) = e

chosen : (t : Bool) (x e : Entry) → pick t (Some x) None ≡ Some e → (t ≡ true) × (x ≡ e)
unfolding pick
chosen true x e h = (refl, ap (entry_or x) h)
chosen false x e h = true-not-false (sym (ap present h))

bounded-says : (n : ℕ) (f : Option Entry) (e : Entry) → bounded_integer n f ≡ Some e → (f ≡ Some e) × (leb (e.bounds.start + e.bounds.len) n ≡ true)
bounded-says n None e h = true-not-false (sym (ap present h))
bounded-says n (Some x) e h =
    let c = chosen (leb (x.bounds.start + x.bounds.len) n) x e h in
    (ap Some c.1, subst (λ (y : Entry). leb (y.bounds.start + y.bounds.len) n ≡ true) c.1 c.0)

-- as the code finds it
pub integer_in : (n : ℕ) (f : Option Entry) (e : Entry) → f ≡ Some e → leb (e.bounds.start + e.bounds.len) n ≡ true → Some e ≡ bounded_integer n f
integer_in n f e p t = sym (ap (bounded_integer n) p ∙ pick_true (leb (e.bounds.start + e.bounds.len) n) (Some e) None t)

pub integer-out : (n : ℕ) (f : Option Entry) (e : Entry) → f ≡ Some e → leb (e.bounds.start + e.bounds.len) n ≡ false → None ≡ bounded_integer n f
integer-out n f e p t = sym (ap (bounded_integer n) p ∙ pick-false (leb (e.bounds.start + e.bounds.len) n) (Some e) None t)

-- ---- the list of the shadows

abbrev pub shadowed : Source → Source
shadowed x = record { list = shadow_output x.list; bounds = x.bounds }

module _ (at : Cursor) (x : Source) where
  abbrev words : List (List ℕ)
  words = x.list.words

  abbrev m : ℕ
  m = length x.list.pos

  abbrev n : ℕ
  n = length x.list.neg

  pub shadow-whole : (e : Entry) → integer_at at x ≡ Some e → whole_at at (shadowed x) ≡ Some (shadow_entry e)
  shadow-whole e h =
      let c = bounded-says (length x.bounds) (WL.point_at at words m n) e h in
      sym (bounded_in (length x.bounds) _ (shadow_entry e) (shadow-found at words m n e c.0) c.1)

  pub integer-lies : (e : Entry) → integer_at at x ≡ Some e → Whole at (shadow_entry e) (length x.list.pos) (length x.list.neg) (length x.bounds)
  integer-lies e h = whole-lies at (shadowed x) (shadow_entry e) (shadow-whole e h)

  pub integer-told : (e : Entry) → integer_at at x ≡ Some e → Told at x.list.words (length x.list.pos) (length x.list.neg) e
  integer-told e h = Readers.point-told at words m n e (bounded-says (length x.bounds) (WL.point_at at words m n) e h).0

  -- ---- of either number: the kind tells which one may lie there

  pub not-real : is_whole at x.list.words ≡ true → whole_at at x ≡ None
  unfolding is_whole
  not-real k = ap (bounded (length x.bounds)) (go (point_at at words m n) refl)
    where
      go : (f : Option LE.Entry) → point_at at words m n ≡ f → f ≡ None
      go None h = refl
      go (Some e) h = absurd (not-both _ k (kind-real (get_or words at.place []) (point-told at words m n e h).is))

  pub not-whole : is_whole at x.list.words ≡ false → integer_at at x ≡ None
  not-whole k = ap (bounded_integer (length x.bounds)) (go (WL.point_at at words m n) refl)
    where
      go : (f : Option Entry) → WL.point_at at words m n ≡ f → f ≡ None
      go None h = refl
      go (Some e) h = absurd (not-both _ (whole-told at words m n e h) k)

  -- so never both
  pub never_both : (e : Entry) → integer_at at x ≡ Some e → whole_at at x ≡ None
  never_both e h = not-real (whole-told at words m n e (bounded-says (length x.bounds) (WL.point_at at words m n) e h).0)
