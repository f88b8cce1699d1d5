-- The lines of points, one by one. Assumes nothing.
use Prim.Native.Nat.{ℕ, suc, ◌+◌, ◌-◌, ◌≤◌, ◌<◌}
use mathlib.Core.Path.{◌≡◌, refl, sym, ap, ◌∙◌}
use mathlib.Core.List.{List, [], ◌∷◌}
use native.Mathlib.Omega.{arith}
use borrow.Author.Tests.{lt-ltb, le-ltb}
use lib.ListN.{length, get_or, take}
use lib.Ieee.{Float}
use Rattle.laws.proofs.Bools.{pick_true, pick-false}
use Rattle.lines.specs.Gathered.{Text, ◌behind◌}
use Rattle.lines.specs.Written.{decimal}
use Rattle.lines.proofs.Gathering.{then}
use Rattle.tally.specs.Sets.{Set}
use Rattle.sets.specs.Rows.{set_of}
use Rattle.exponential.specs.declared.Counts.{Counts}
use Rattle.point.specs.Handing.{Stored}
use Rattle.point.specs.declared.Figures.{Figures}
use Rattle.point.specs.declared.Figures.TheVariants.{Exponential, Explicit}
use Rattle.listing.specs.Listed.{Output, stored_at}
use Rattle.listing.specs.declared.Cursor.{Cursor}
use Rattle.listing.specs.declared.Entry.{Entry}
use Rattle.std.specs.Prelude.{Option, Some, None}
use Rattle.printing.specs.declared.Form.{Form}
use Rattle.printing.specs.Fields.{line, set_field}
use Rattle.printing.specs.Printed.{exponential_fields, explicit_fields, figures_fields, letter, point_line, line_of, found_line, found_next, found, line_at, next_at, lines_by}
use Rattle.printing.proofs.Putting.{nothing}

-- ---- by kind

module _ (s : Set) (x : Stored) where
  pub exponential-line : (c : Counts) → x.point.figures ≡ Exponential c → line ((112 ∷ []) ∷ set_field s ∷ decimal c.count ∷ decimal c.zeros ∷ exponential_fields x.point x.pos x.neg) ≡ point_line s x
  unfolding point_line
  exponential-line c p = ap (λ (f : Figures). line ((letter f ∷ []) ∷ set_field s ∷ figures_fields f x)) (sym p)

  pub explicit-line : (n : ℕ) → x.point.figures ≡ Explicit n → line ((113 ∷ []) ∷ set_field s ∷ decimal n ∷ explicit_fields x.point x.pos x.bounds) ≡ point_line s x
  unfolding point_line
  explicit-line n p = ap (λ (f : Figures). line ((letter f ∷ []) ∷ set_field s ∷ figures_fields f x)) (sym p)

-- ---- by form

pub in_form : {f g : Form} → f ≡ g → (s : Set) (x : Stored) → line_of g s x ≡ line_of f s x
in_form p s x = ap (λ (h : Form). line_of h s x) (sym p)

-- ---- by what is found

module _ (form : Form) (at : Cursor) (o : Output) (bounds : List Float) where
  -- what is printed, and the cursor behind it
  abbrev pub Prints : List ℕ → Cursor → Type 0
  Prints xs next = (xs ≡ line_at form at o bounds) × (next ≡ next_at at o)

  pub none_found : found at o ≡ None → Prints [] at
  unfolding line_at next_at
  none_found p = (ap (λ (f : Option Entry). found_line form at f o bounds) (sym p), ap (λ (f : Option Entry). found_next at f o) (sym p))

  module _ (e : Entry) (p : found at o ≡ Some e) where
    pub no-set : length o.sets ≤ at.place → Prints [] at
    unfolding line_at next_at
    no-set h = (
      sym (ap (λ (f : Option Entry). found_line form at f o bounds) p ∙ pick-false _ _ _ (le-ltb at.place (length o.sets) h)),
      sym (ap (λ (f : Option Entry). found_next at f o) p ∙ pick-false _ _ _ (le-ltb at.place (length o.sets) h)),
    )

    pub point-found : at.place < length o.sets → Prints (line_of form (take 8 (set_of (get_or o.sets at.place []))) (stored_at at e bounds o)) e.next
    unfolding line_at next_at
    point-found h = (
      sym (ap (λ (f : Option Entry). found_line form at f o bounds) p ∙ pick_true _ _ _ (lt-ltb at.place (length o.sets) h)),
      sym (ap (λ (f : Option Entry). found_next at f o) p ∙ pick_true _ _ _ (lt-ltb at.place (length o.sets) h)),
    )

-- ---- one after another

module _ (printed : Cursor → List ℕ) (behind-it : Cursor → Cursor) (n : ℕ) (at : Cursor) (t : Text) where
  pub lines_start : (lines_by printed behind-it (n - 0) at behind t) ≡ (lines_by printed behind-it n at behind t)
  lines_start =
      let z : n - 0 ≡ n = omega arith in
      ap (λ (m : ℕ). lines_by printed behind-it m at behind t) z

  pub lines-turn : (i : ℕ) (next : Cursor) {u : Text} → i < n → u ≡ (printed at behind t) → next ≡ behind-it at
      → (lines_by printed behind-it (n - (i + 1)) next behind u) ≡ (lines_by printed behind-it (n - i) at behind t)
  unfolding lines_by
  lines-turn i next {u} h p q =
      let k : suc (n - (i + 1)) ≡ n - i = omega arith in
      ap (λ (a : Cursor). lines_by printed behind-it (n - (i + 1)) a behind u) q
      ∙ then (printed at) (lines_by printed behind-it (n - (i + 1)) (behind-it at)) t p refl
      ∙ ap (λ (m : ℕ). lines_by printed behind-it m at behind t) k

  pub lines_end : (i : ℕ) → n ≤ i → (lines_by printed behind-it (n - i) at behind t) ≡ t
  unfolding lines_by
  lines_end i h =
      let z : n - i ≡ 0 = omega arith in
      ap (λ (m : ℕ). lines_by printed behind-it m at behind t) z ∙ sym (nothing t)
