-- What is left of judging a sheet, entry by entry: the turns of the loop and its ends. Assumes nothing.
use Prim.Native.Nat.{ℕ, zero, suc, ◌+◌, ◌-◌, ◌*◌, ◌≤◌, ◌<◌}
use mathlib.Core.Path.{◌≡◌, refl, sym, ap, subst, transport, ◌∙◌}
use mathlib.Core.Bool.{Bool, true, false, ◌&&◌, ◌||◌, and-false}
use mathlib.Core.List.{List, []}
use native.Mathlib.Numerals.{add-one}
use native.Mathlib.Omega.{arith}
use borrow.Author.Tests.{eq-eqb, ne_eqb}
use lib.Dec.{eqb}
use lib.ListN.{length, take, drop, length-drop}
use lib.Seq.{length-take-le}
use Rattle.laws.specs.Pick.{pick}
use Rattle.laws.proofs.Bools.{and_intro, pick_true, pick-false}
use Rattle.sets.specs.Rows.{size, set_of, row_of, below}
use Rattle.sets.proofs.Keyed.{length-set-of}
use Rattle.tally.specs.Sets.{cmp}
use Rattle.records.specs.Records.{cells}
use Rattle.records.specs.Inner.{run}
use Rattle.records.proofs.Found.{cells-length, run_is}
use Rattle.sheets.specs.Entries.{head_in}
use Rattle.sheets.specs.Sheet.{points_in}
use Rattle.sheets.specs.Inner.{framed, head_fine, entry_at}
use Rattle.sheets.proofs.SetLaws.{length-row}
use Rattle.sheet_reading.specs.Inner.{There, sizes_of, words_in, more, Few, judged_from, Addable, nothing, judged}
use Rattle.std.specs.Prelude.{Option, None, Some}
use Rattle.sheet_reading.specs.declared.judge.Sizes.{Sizes}
use Rattle.sheet_reading.proofs.EntryLaws.{within-there, head-run, entry_row, entry-head, entry-within}
use Rattle.sheet_reading.proofs.FrameLaws.{framed-long, framed-few, framed-points}
use Rattle.sheet_reading.proofs.SizeLaws.{head_few}

-- of a sheet of n points with i of them judged: the next entry lies at word k, those before it take y, the set before it is that of a row
pub record Unjudged (s : List ℕ) (n : ℕ) (y : Sizes) (row : List ℕ) (k i : ℕ) : Type 0 where
  pub low : i ≤ n
  pub few : n ≤ 64
  pub many : length (cells s) ≤ 196608
  pub within : k ≤ length (cells s)
  pub small : size row ≤ 8
  pub bounds : y.bounds ≤ i * 160
  pub pos : y.pos ≤ i * 160
  pub neg : y.neg ≤ i * 160
  pub work : judged s ≡ judged_from (n - i) s k i row y

-- the first entry follows any row
no_row : (n : ℕ) (s : List ℕ) (k : ℕ) (a b : List ℕ) (y : Sizes) → judged_from n s k 0 a y ≡ judged_from n s k 0 b y
no_row zero s k a b y = refl
no_row (suc n) s k a b y = refl

pub first-turn : (s : List ℕ) (n : ℕ) (row : List ℕ) → framed s ≡ true → n ≡ points_in s → size row ≤ 8 → Unjudged s n nothing row 3 0
unfolding judged
first-turn s n row f e h =
    let m : points_in s ≡ n - 0 = omega (arith, e) in
    record {
      low = omega arith;
      few = omega (arith, e, framed-points s f);
      many = omega (arith, cells-length s, framed-few s f);
      within = omega (arith, cells-length s, framed-long s f);
      small = h;
      bounds = omega arith;
      pos = omega arith;
      neg = omega arith;
      work = no_row (points_in s) s 3 [] row nothing ∙ ap (λ (j : ℕ). judged_from j s 3 0 row nothing) m;
    }

module _ (s : List ℕ) (n : ℕ) (y : Sizes) (row : List ℕ) (k i : ℕ) (t : Unjudged s n y row k i) where
  abbrev l : List ℕ
  l = drop k (cells s)

  -- ---- the ends

  done : n ≤ i → judged s ≡ pick (eqb (length l) 0) (Some y) None
  done h = let e : n - i ≡ 0 = omega arith in t.work ∙ ap (λ (j : ℕ). judged_from j s k i row y) e

  -- words are left
  pub end_bad : n ≤ i → k < length (cells s) → None ≡ judged s
  end_bad h g = sym (done h ∙ pick-false (eqb (length l) 0) (Some y) None (ne_eqb (length l) 0 (λ e. omega (arith, e, g, length-drop k (cells s)))))

  pub end-fine : n ≤ i → length (cells s) ≤ k → Some y ≡ judged s
  end-fine h g =
      let e : length l ≡ 0 = omega (arith, g, length-drop k (cells s)) in
      sym (done h ∙ pick_true (eqb (length l) 0) (Some y) None (eq-eqb (length l) 0 e))

  -- ---- a turn
  module _ (less : i < n) where
    abbrev follows : List ℕ → Bool
    follows r = eqb i 0 || below (cmp (set_of row) (set_of r))

    abbrev rest : Option Sizes
    rest = judged_from (n - suc i) s (k + words_in (sizes_of (head_in l))) (suc i) (take 9 l) (more y (sizes_of (head_in l)))

    turn : judged s ≡ pick (entry_at s k && follows (take 9 l)) rest None
    turn = let e : n - i ≡ suc (n - suc i) = omega (arith, less) in t.work ∙ ap (λ (j : ℕ). judged_from j s k i row y) e

    pub entry_bad : entry_at s k ≡ false → None ≡ judged s
    entry_bad h = sym (turn ∙ pick-false (entry_at s k && follows (take 9 l)) rest None (ap (λ (b : Bool). b && follows (take 9 l)) h))

    -- ---- the entry passes
    module _ (h : entry_at s k ≡ true) where
      long : k + 21 ≤ length (cells s)
      long = omega (arith, entry-within s k h)

      pub row-there : There s k 9
      row-there = within-there s k 9 t.many (omega (arith, long))

      pub head-there : There s (k + 9) 12
      head-there = within-there s (k + 9) 12 t.many (omega (arith, long))

      pub next_small : k + 9 < 4294967296
      next_small = omega (arith, long, t.many)

      next-size : size (take 9 l) ≤ 8
      next-size =
          let a : length (take 9 l) ≡ 9 = length-take-le 9 l (omega (arith, long, length-drop k (cells s))) in
          let b : length (take 9 l) ≡ length (row_of (set_of (take 9 l))) = ap length (entry_row s k h) in
          omega (arith, a, b, length-row (set_of (take 9 l)), length-set-of (take 9 l))

      next-few : Few (sizes_of (head_in l))
      next-few = head_few (head_in l) (entry-head s k h)

      next : follows (take 9 l) ≡ true
          → Unjudged s n (more y (sizes_of (head_in l))) (take 9 l) (k + words_in (sizes_of (head_in l))) (suc i)
      next g =
          let f = next-few in
          record {
            low = omega (arith, less);
            few = t.few;
            many = t.many;
            within = entry-within s k h;
            small = next-size;
            bounds = omega (arith, t.bounds, f.bounds);
            pos = omega (arith, t.pos, f.pos);
            neg = omega (arith, t.neg, f.neg);
            work = turn ∙ pick_true (entry_at s k && follows (take 9 l)) rest None (and_intro (entry_at s k) (follows (take 9 l)) h g);
          }

      -- by the rows that the code has read
      module _ (r : List ℕ) (er : r ≡ run s k 9) where
        row_is : r ≡ take 9 l
        row_is = er ∙ run_is s k 9 (omega (arith, long))

        pub row_small : size r ≤ 8
        row_small = subst (λ (x : List ℕ). size x ≤ 8) (sym row_is) next-size

        pub order_bad : follows r ≡ false → None ≡ judged s
        order_bad g =
            sym (turn
            ∙ pick-false (entry_at s k && follows (take 9 l)) rest None
            (ap (λ (b : Bool). entry_at s k && b) (ap follows (sym row_is) ∙ g) ∙ and-false (entry_at s k)))

        module _ (w : List ℕ) (ew : w ≡ run s (k + 9) 12) where
          head-is : w ≡ head_in l
          head-is = ew ∙ head-run s k long

          pub head-passes : head_fine w ≡ true
          head-passes = subst (λ (v : List ℕ). head_fine v ≡ true) (sym head-is) (entry-head s k h)

          module _ (z : Sizes) (ez : z ≡ sizes_of w) where
            size_is : sizes_of (head_in l) ≡ z
            size_is = sym (ez ∙ ap sizes_of head-is)

            pub sizes-few : Few z
            sizes-few = subst Few size_is next-few

            pub addable : Addable y z
            addable =
                let f = sizes-few in
                record {
                  bounds = omega (arith, t.bounds, t.few, t.low, f.bounds);
                  pos = omega (arith, t.pos, t.few, t.low, f.pos);
                  neg = omega (arith, t.neg, t.few, t.low, f.neg);
                }

            pub words_small : (m : ℕ) → m ≡ words_in z → k + m < 4294967296
            words_small m e = let v = e ∙ ap words_in (sym size_is) in omega (arith, entry-within s k h, t.many, v)

            pub next-turn : (y' : Sizes) (m : ℕ) → follows r ≡ true → y' ≡ more y z → m ≡ words_in z → Unjudged s n y' r (k + m) (i + 1)
            next-turn y' m g p q =
                let a : more y (sizes_of (head_in l)) ≡ y' = ap (more y) size_is ∙ sym p in
                let b : k + words_in (sizes_of (head_in l)) ≡ k + m = ap (λ (j : ℕ). k + j) (ap words_in size_is ∙ sym q) in
                let c : suc i ≡ i + 1 = sym (add-one i) in
                let d : take 9 l ≡ r = sym row_is in
                transport (λ j. Unjudged s n (a j) (d j) (b j) (c j)) (next (ap follows d ∙ g))
