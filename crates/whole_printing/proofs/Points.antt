-- The lines of points of either number, one by one. Assumes nothing.
use Prim.Native.Nat.{ℕ, ◌≤◌, ◌<◌}
use mathlib.Core.Path.{◌≡◌, sym, ap, ◌∙◌}
use mathlib.Core.List.{List, [], ◌∷◌}
use borrow.Author.Tests.{lt-ltb, le-ltb}
use lib.ListN.{length, get_or, take}
use lib.Ieee.{Float}
use Rattle.laws.proofs.Bools.{pick_true, pick-false}
use Rattle.lines.specs.Written.{decimal}
use Rattle.tally.specs.Sets.{Set}
use Rattle.sets.specs.Rows.{set_of}
use Rattle.exponential.specs.declared.Counts.{Counts}
use Rattle.whole_point.specs.Handing.{Stored}
use Rattle.point.specs.declared.Figures.{Figures}
use Rattle.point.specs.declared.Figures.TheVariants.{Exponential, Explicit}
use Rattle.listing.specs.Listed.{Output}
use Rattle.listing.specs.declared.Cursor.{Cursor}
use Rattle.whole_listing.specs.Listed.{stored_at}
use Rattle.whole_listing.specs.declared.Entry.{Entry}
use Rattle.std.specs.Prelude.{Option, Some, None}
use Rattle.printing.specs.declared.Form.TheVariants.{Point}
use Rattle.printing.specs.Fields.{line, set_field}
use Rattle.printing.specs.Printed as F
use Rattle.printing.specs.Printed.{letter}
use Rattle.whole_printing.specs.Printed.{exponential_fields, explicit_fields, figures_fields, point_line, found_line, found_next, found, line_at, next_at}

-- ---- by kind

module _ (s : Set) (x : Stored) where
  pub exponential-line : (c : Counts) → x.point.figures ≡ Exponential c → line ((112 ∷ []) ∷ set_field s ∷ decimal c.count ∷ decimal c.zeros ∷ exponential_fields x.point x.pos x.neg) ≡ point_line s x
  unfolding point_line
  exponential-line c p = ap (λ (f : Figures). line ((letter f ∷ []) ∷ set_field s ∷ figures_fields f x)) (sym p)

  pub explicit-line : (n : ℕ) → x.point.figures ≡ Explicit n → line ((113 ∷ []) ∷ set_field s ∷ decimal n ∷ explicit_fields x.point x.pos x.bounds) ≡ point_line s x
  unfolding point_line
  explicit-line n p = ap (λ (f : Figures). line ((letter f ∷ []) ∷ set_field s ∷ figures_fields f x)) (sym p)

-- ---- by what is found

module _ (at : Cursor) (o : Output) (bounds : List Float) where
  -- what is printed, and the cursor behind it
  abbrev pub Prints : List ℕ → Cursor → Type 0
  Prints xs next = (xs ≡ line_at at o bounds) × (next ≡ next_at at o)

  -- by `printing`
  pub none_found : found at o ≡ None → Prints (F.line_at Point at o bounds) (F.next_at at o)
  unfolding line_at next_at
  none_found p = (ap (λ (f : Option Entry). found_line at f o bounds) (sym p), ap (λ (f : Option Entry). found_next at f o) (sym p))

  module _ (e : Entry) (p : found at o ≡ Some e) where
    pub no-set : length o.sets ≤ at.place → Prints [] at
    unfolding line_at next_at
    no-set h = (
      sym (ap (λ (f : Option Entry). found_line at f o bounds) p ∙ pick-false _ _ _ (le-ltb at.place (length o.sets) h)),
      sym (ap (λ (f : Option Entry). found_next at f o) p ∙ pick-false _ _ _ (le-ltb at.place (length o.sets) h)),
    )

    pub point-found : at.place < length o.sets → Prints (point_line (take 8 (set_of (get_or o.sets at.place []))) (stored_at at e bounds o)) e.next
    unfolding line_at next_at
    point-found h = (
      sym (ap (λ (f : Option Entry). found_line at f o bounds) p ∙ pick_true _ _ _ (lt-ltb at.place (length o.sets) h)),
      sym (ap (λ (f : Option Entry). found_next at f o) p ∙ pick_true _ _ _ (lt-ltb at.place (length o.sets) h)),
    )
