-- What a line asks for, by cases: one law for each way in which its fields are read. Assumes nothing.
use Prim.Native.Nat.{ℕ, ◌-◌, ◌≤◌, ◌<◌}
use mathlib.Core.Path.{◌≡◌, sym, ap, ◌∙◌}
use mathlib.Core.Bool.{Bool, true, false, ◌&&◌}
use mathlib.Core.List.{List}
use native.Mathlib.Omega.{arith}
use lib.Dec.{eqb}
use lib.ListN.{length, get_or, take, drop, length-drop}
use lib.Seq.{take_all}
use borrow.Author.Tests.{le-leb, lt-leb, eq-eqb, ne_eqb}
use Rattle.laws.proofs.Bools.{pick_true, pick-false}
use Rattle.text.specs.Numbers.{decimal_of, signed_of}
use Rattle.text.specs.Fields.{spaces_of, field_of}
use lib.IntN.{ℤ}
use Rattle.std.specs.Prelude.{Option, None}
use Rattle.lines.specs.Spelled.{spelled, kept}
use Rattle.gauge_lines.specs.declared.fields.Call.{Call}
use Rattle.gauge_lines.specs.declared.fields.Call.TheVariants as C
use Rattle.gauge_lines.specs.Lines.{size_in, scale_in, wanted_of, settings_of, parted, bits_in, set_in, both_of, board_of, attributes_in}
use Rattle.gauge_lines.specs.Lines.{letter_of, by_letter, call_of}

-- ---- `e SIZE SCALE LIMIT START`

module _ (bs : List ℕ) where
  pub settings-none : (spaces_of bs ≡ 4 → ⊥) → None ≡ settings_of bs
  unfolding settings_of
  settings-none h = sym (pick-false _ _ _ (ne_eqb (spaces_of bs) 4 h))

  pub settings-are : spaces_of bs ≡ 4 → (z : Option ℕ) (s : Option ℤ) (l t : Option ℕ) → size_in (decimal_of (field_of bs 1)) ≡ z
      → scale_in (signed_of (field_of bs 2)) ≡ s → decimal_of (field_of bs 3) ≡ l → decimal_of (field_of bs 4) ≡ t
      → wanted_of z s l t ≡ settings_of bs
  unfolding settings_of
  settings-are h z s l t p q r e = sym (pick_true _ _ _ (eq-eqb (spaces_of bs) 4 h) ∙ (λ i. wanted_of (p i) (q i) (r i) (e i)))

-- ---- `r BITS SET`

module _ (bs : List ℕ) where
  pub short : length bs < 20 → parted bs ≡ false
  unfolding parted
  short h = let p = lt-leb 20 (length bs) h in λ i. p i && eqb (get_or bs 18 0) 32

  pub joined : 20 ≤ length bs → (get_or bs 18 0 ≡ 32 → ⊥) → parted bs ≡ false
  unfolding parted
  joined h k = let p = le-leb 20 (length bs) h in let q = ne_eqb (get_or bs 18 0) 32 k in λ i. p i && q i

  pub apart : 20 ≤ length bs → get_or bs 18 0 ≡ 32 → parted bs ≡ true
  unfolding parted
  apart h k = let p = le-leb 20 (length bs) h in let q = eq-eqb (get_or bs 18 0) 32 k in λ i. p i && q i

  pub rest-is : take (length bs - 19) (drop 19 bs) ≡ drop 19 bs
  rest-is = let l : length (drop 19 bs) ≤ length bs - 19 = omega (arith, length-drop 19 bs) in take_all (length bs - 19) (drop 19 bs) l

  pub board-none : parted bs ≡ false → None ≡ board_of bs
  unfolding board_of
  board-none h = sym (pick-false (parted bs) _ _ h)

  pub kept-none : (store : List (List ℕ)) → parted bs ≡ false → store ≡ attributes_in bs store
  unfolding attributes_in
  kept-none store h = sym (pick-false (parted bs) _ _ h)

  pub board-is : parted bs ≡ true → (g x : Option ℕ) → set_in bs ≡ g → bits_in bs ≡ x → both_of g x ≡ board_of bs
  unfolding board_of
  board-is h g x p q = sym (pick_true (parted bs) _ _ h ∙ (λ i. both_of (p i) (q i)))

  pub kept-are : (store : List (List ℕ)) → parted bs ≡ true
      → kept 0 (spelled (take (length bs - 19) (drop 19 bs))) store ≡ attributes_in bs store
  unfolding attributes_in
  kept-are store h = ap (λ (u : List ℕ). kept 0 (spelled u) store) rest-is ∙ sym (pick_true (parted bs) _ _ h)

-- ---- any line

module _ (bs : List ℕ) (running over : Bool) where
  pub no_line : length bs ≡ 0 → over ≡ true → C.None ≡ call_of bs running over
  unfolding call_of
  no_line h k = sym (pick_true _ _ _ (eq-eqb (length bs) 0 h) ∙ pick_true _ _ _ k)

  pub empty-line : length bs ≡ 0 → over ≡ false → C.Unread ≡ call_of bs running over
  unfolding call_of
  empty-line h k = sym (pick_true _ _ _ (eq-eqb (length bs) 0 h) ∙ pick-false _ _ _ k)

  module _ (h : length bs ≡ 0 → ⊥) where
    pub long-line : 255 < length bs → C.Unread ≡ call_of bs running over
    unfolding call_of
    long-line k = sym (pick-false _ _ _ (ne_eqb (length bs) 0 h) ∙ pick-false _ _ _ (lt-leb (length bs) 255 k))

    pub lettered : length bs ≤ 255 → (l : ℕ) → l ≡ letter_of bs → (x : Call) → by_letter l running ≡ x → x ≡ call_of bs running over
    unfolding call_of
    lettered k l e x y =
        sym (pick-false _ _ _ (ne_eqb (length bs) 0 h) ∙ pick_true _ _ _ (le-leb (length bs) 255 k)
        ∙ ap (λ (n : ℕ). by_letter n running) (sym e) ∙ y)

module _ (l : ℕ) (running : Bool) where
  pub by-e : l ≡ 101 → by_letter l running ≡ C.Start
  unfolding by_letter
  by-e h = pick_true _ _ _ (eq-eqb l 101 h)

  module _ (h : l ≡ 101 → ⊥) where
    pub by-none : running ≡ false → by_letter l running ≡ C.Unread
    unfolding by_letter
    by-none k = pick-false _ _ _ (ne_eqb l 101 h) ∙ pick-false running _ _ k

    module _ (k : running ≡ true) where
      pub by-r : l ≡ 114 → by_letter l running ≡ C.Record
      unfolding by_letter
      by-r e = pick-false _ _ _ (ne_eqb l 101 h) ∙ pick_true running _ _ k ∙ pick_true _ _ _ (eq-eqb l 114 e)

      module _ (e : l ≡ 114 → ⊥) where
        pub by-c : l ≡ 99 → by_letter l running ≡ C.Collect
        unfolding by_letter
        by-c g =
            pick-false _ _ _ (ne_eqb l 101 h) ∙ pick_true running _ _ k ∙ pick-false _ _ _ (ne_eqb l 114 e)
            ∙ pick_true _ _ _ (eq-eqb l 99 g)

        pub by-other : (l ≡ 99 → ⊥) → by_letter l running ≡ C.Unread
        unfolding by_letter
        by-other g =
            pick-false _ _ _ (ne_eqb l 101 h) ∙ pick_true running _ _ k ∙ pick-false _ _ _ (ne_eqb l 114 e)
            ∙ pick-false _ _ _ (ne_eqb l 99 g)
