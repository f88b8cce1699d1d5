-- The walk over the entries of a sheet that was judged fine: what is left of it, and that each entry has room. Assumes nothing.
use Prim.Native.Nat.{ℕ, zero, suc, ◌+◌, ◌-◌, ◌*◌, ◌/◌, ◌%◌, ◌≤◌, ◌<◌}
use mathlib.Core.Path.{◌≡◌, refl, sym, ap, subst, transport, ◌∙◌}
use mathlib.Core.Bool.{Bool, true, false, ◌&&◌, ◌||◌}
use mathlib.Core.List.{List, [], ◌++◌}
use native.Mathlib.Numerals.{add-one}
use native.Mathlib.Omega.{arith}
use borrow.Author.Tests.{leb-true}
use lib.Dec.{leb, eqb}
use lib.ListN.{length, take, drop, length-append, length-drop, length-set}
use lib.Seq.{length-take-le}
use Rattle.laws.specs.Over.{over}
use Rattle.laws.specs.Pick.{pick}
use Rattle.laws.proofs.Bools.{and_left, and_right}
use Rattle.laws.proofs.Cases.{true-not-false}
use Rattle.sets.specs.Rows.{set_of, below}
use Rattle.tally.specs.Sets.{cmp}
use Rattle.listing.specs.Listed.{over_at}
use Rattle.pooling.specs.Lists.{Source}
use Rattle.records.specs.Records.{width, cells}
use Rattle.records.specs.Inner.{run}
use Rattle.records.proofs.Found.{cells-length}
use Rattle.sheets.specs.Entries.{head_in}
use Rattle.sheets.specs.Sheet.{info_in, points_in}
use Rattle.sheets.specs.Inner.{records_in, good_shape, good_header, framed, head_fine, entry_at}
use Rattle.sheets.specs.Lists.{fits_in}
use Rattle.sheet_reading.specs.Inner.{There, sizes_of, words_in, more, Few, judged_from, Addable, nothing, judged, copied_entry, copied, EntryRoom, Copyable}
use Rattle.std.specs.Prelude.{Option, None, Some}
use Rattle.sheet_reading.specs.declared.judge.Sizes.{Sizes}
use Rattle.sheet_reading.proofs.CopyLaws.{length_run, length_floats}
use Rattle.sheet_reading.proofs.EntryLaws.{within-there, head-run, entry-head, entry-within}
use Rattle.sheet_reading.proofs.SizeLaws.{head_few}

-- ---- judged fine

abbrev fine? : Option Sizes → Bool
fine? None = false
fine? (Some z) = true

abbrev sizes_in : Option Sizes → Sizes
sizes_in None = nothing
sizes_in (Some z) = z

pick-fine : (b : Bool) (x : Option Sizes) (all : Sizes) → pick b x None ≡ Some all → (b ≡ true) × (x ≡ Some all)
unfolding pick
pick-fine true x all h = (refl, h)
pick-fine false x all h = true-not-false (sym (ap fine? h))

-- the next entry passes its tests, and so do those behind it
module _ (n : ℕ) (s : List ℕ) (k i : ℕ) (row : List ℕ) (y all : Sizes) (h : judged_from (suc n) s k i row y ≡ Some all) where
  abbrev l : List ℕ
  l = drop k (cells s)

  abbrev test : Bool
  test = entry_at s k && (eqb i 0 || below (cmp (set_of row) (set_of (take 9 l))))

  abbrev rest : Option Sizes
  rest = judged_from n s (k + words_in (sizes_of (head_in l))) (suc i) (take 9 l) (more y (sizes_of (head_in l)))

  pub judged-entry : entry_at s k ≡ true
  judged-entry = and_left (entry_at s k) _ (pick-fine test rest all h).0

  pub judged-rest : rest ≡ Some all
  judged-rest = (pick-fine test rest all h).1

-- no more than all entries take
pub record AtMost (y all : Sizes) : Type 0 where
  pub bounds : y.bounds ≤ all.bounds
  pub pos : y.pos ≤ all.pos
  pub neg : y.neg ≤ all.neg

judged-adds : (n : ℕ) (s : List ℕ) (k i : ℕ) (row : List ℕ) (y all : Sizes) → judged_from n s k i row y ≡ Some all → AtMost y all
judged-adds zero s k i row y all h =
    let e : y ≡ all = ap sizes_in (pick-fine (eqb (length (drop k (cells s))) 0) (Some y) all h).1 in
    record {
      bounds = omega (arith, ap (λ (z : Sizes). z.bounds) e);
      pos = omega (arith, ap (λ (z : Sizes). z.pos) e);
      neg = omega (arith, ap (λ (z : Sizes). z.neg) e);
    }
judged-adds (suc n) s k i row y all h =
    let l = drop k (cells s) in
    let z = sizes_of (head_in l) in
    let a = judged-adds n s (k + words_in z) (suc i) (take 9 l) (more y z) all (judged-rest n s k i row y all h) in
    record { bounds = omega (arith, a.bounds); pos = omega (arith, a.pos); neg = omega (arith, a.neg) }

-- ---- a sheet in its frame

framed-many : (s : List ℕ) → framed s ≡ true → length (cells s) ≤ 196608
unfolding framed good_shape
framed-many s h =
    let f = leb-true (records_in s) 65536 (and_right (leb 1 (records_in s)) _ (and_right (eqb (length s % 32) 0) _ (and_left (good_shape s) _ h))) in
    omega (arith, f, cells-length s)

framed-few : (s : List ℕ) → framed s ≡ true → points_in s ≤ 64
unfolding framed good_header
framed-few s h =
    leb-true (points_in s) 64
    (and_left _ _ (and_right (leb (info_in s / 256 % 256) 1) _ (and_right (eqb (info_in s % 256) 0) _ (and_left _ _ (and_right (good_shape s) _ h)))))

-- ---- room in the stores

pub record Roomy (n : ℕ) (all : Sizes) (o : Source) : Type 0 where
  pub sets : n ≤ length o.list.sets
  pub words : n ≤ length o.list.words
  pub pos : all.pos ≤ length o.list.pos
  pub neg : all.neg ≤ length o.list.neg
  pub bounds : all.bounds ≤ length o.bounds

pub fits-says : (n : ℕ) (all : Sizes) (o : Source) → fits_in n all.pos all.neg all.bounds o ≡ true → Roomy n all o
fits-says n all o h =
    let a = and_right (leb n (length o.list.sets)) _ h in
    let b = and_right (leb n (length o.list.words)) _ a in
    let c = and_right (leb all.pos (length o.list.pos)) _ b in
    record {
      sets = leb-true _ _ (and_left _ _ h);
      words = leb-true _ _ (and_left _ _ a);
      pos = leb-true _ _ (and_left _ _ b);
      neg = leb-true _ _ (and_left _ _ c);
      bounds = leb-true _ _ (and_right (leb all.neg (length o.list.neg)) _ c);
    }

-- stores as long as before
pub record AsLong (o₀ o : Source) : Type 0 where
  pub sets : length o.list.sets ≡ length o₀.list.sets
  pub words : length o.list.words ≡ length o₀.list.words
  pub pos : length o.list.pos ≡ length o₀.list.pos
  pub neg : length o.list.neg ≡ length o₀.list.neg
  pub bounds : length o.bounds ≡ length o₀.bounds

length-over-at : {A : Type 0} (a n : ℕ) (ys xs : List A) → length ys ≡ n → a + n ≤ length xs → length (over_at a ys xs) ≡ length xs
unfolding over_at over
length-over-at a n ys xs e h =
    omega (
      arith,
      length-append (take a xs) (ys ++ drop (length ys) (drop a xs)),
      length-append ys (drop (length ys) (drop a xs)),
      length-take-le a xs (omega arith),
      length-drop (length ys) (drop a xs),
      length-drop a xs,
    )

-- ---- what is left of the work

-- of a sheet of n points with i of them copied: the next entry lies at word k, those before it take y
pub record Left (s : List ℕ) (n : ℕ) (o₀ : Source) (y : Sizes) (k i : ℕ) (o : Source) : Type 0 where
  pub all : Sizes
  pub row : List ℕ
  pub low : i ≤ n
  pub few : n ≤ 64
  pub many : length (cells s) ≤ 196608
  pub bounds : y.bounds ≤ i * 160
  pub pos : y.pos ≤ i * 160
  pub neg : y.neg ≤ i * 160
  pub fine : judged_from (n - i) s k i row y ≡ Some all
  pub room : Roomy n all o₀
  pub long : AsLong o₀ o
  pub work : copied n s 3 0 nothing o₀ ≡ copied (n - i) s k i y o

pub left-start : (s : List ℕ) (n : ℕ) (o : Source) → Copyable s n o → Left s n o nothing 3 0 o
unfolding judged
left-start s n o c =
    let e : n - 0 ≡ n = omega arith in
    record {
      all = c.sizes;
      row = [];
      low = omega arith;
      few = omega (arith, c.many, framed-few s c.framed);
      many = framed-many s c.framed;
      bounds = omega arith;
      pos = omega arith;
      neg = omega arith;
      fine = ap (λ (j : ℕ). judged_from j s 3 0 [] nothing) (e ∙ c.many) ∙ c.fine;
      room = fits-says n c.sizes o c.room;
      long = record { sets = refl; words = refl; pos = refl; neg = refl; bounds = refl };
      work = ap (λ (j : ℕ). copied j s 3 0 nothing o) (sym e);
    }

-- all is done
pub left-done : {s : List ℕ} {n : ℕ} {o₀ : Source} {y : Sizes} {k i : ℕ} {o : Source} → Left s n o₀ y k i o → n ≤ i → o ≡ copied n s 3 0 nothing o₀
left-done {s} {n} {o₀} {y} {k} {i} {o} t h =
    let e : n - i ≡ 0 = omega arith in
    sym (t.work ∙ ap (λ (j : ℕ). copied j s k i y o) e)

-- the next entry, by the words w that are read and the sizes z that they say
module _ {s : List ℕ} {n : ℕ} {o₀ : Source} {y : Sizes} {k i : ℕ} {o : Source} (t : Left s n o₀ y k i o) (less : i < n) where
  abbrev head : List ℕ
  head = head_in (drop k (cells s))

  abbrev size : Sizes
  size = sizes_of head

  one_less : n - i ≡ suc (n - suc i)
  one_less = omega arith

  next-fine : judged_from (suc (n - suc i)) s k i t.row y ≡ Some t.all
  next-fine = ap (λ (j : ℕ). judged_from j s k i t.row y) (sym one_less) ∙ t.fine

  next-passes : entry_at s k ≡ true
  next-passes = judged-entry (n - suc i) s k i t.row y t.all next-fine

  next-within : k + words_in size ≤ length (cells s)
  next-within = entry-within s k next-passes

  next-most : AtMost (more y size) t.all
  next-most =
      judged-adds (n - suc i) s (k + words_in size) (suc i) (take 9 (drop k (cells s))) (more y size) t.all
      (judged-rest (n - suc i) s k i t.row y t.all next-fine)

  next-few : Few size
  next-few = head_few head (entry-head s k next-passes)

  pub head-there : There s (k + 9) 12
  head-there = within-there s (k + 9) 12 t.many (omega (arith, next-within))

  pub next_small : k + 9 < 4294967296
  next_small = omega (arith, next-within, t.many)

  -- the stores after it
  next-long : AsLong o₀ (copied_entry s k i y o)
  unfolding copied_entry
  next-long =
      let m = t.long in
      let r = t.room in
      let c = k + (21 + width size.bounds) in
      record {
        sets = length-set o.list.sets i _ ∙ m.sets;
        words = length-set o.list.words i _ ∙ m.words;
        pos = length-over-at y.pos size.pos _ o.list.pos (length_run s c size.pos) (omega (arith, next-most.pos, r.pos, m.pos)) ∙ m.pos;
        neg =
            length-over-at y.neg size.neg _ o.list.neg (length_run s (c + size.pos) size.neg) (omega (arith, next-most.neg, r.neg, m.neg))
            ∙ m.neg;
        bounds =
            length-over-at y.bounds size.bounds _ o.bounds (length_floats s (k + 21) size.bounds)
            (omega (arith, next-most.bounds, r.bounds, m.bounds))
            ∙ m.bounds;
      }

  next-left : Left s n o₀ (more y size) (k + words_in size) (suc i) (copied_entry s k i y o)
  next-left =
      let f = next-few in
      record {
        all = t.all;
        row = take 9 (drop k (cells s));
        low = omega arith;
        few = t.few;
        many = t.many;
        bounds = omega (arith, t.bounds, f.bounds);
        pos = omega (arith, t.pos, f.pos);
        neg = omega (arith, t.neg, f.neg);
        fine = judged-rest (n - suc i) s k i t.row y t.all next-fine;
        room = t.room;
        long = next-long;
        work = t.work ∙ ap (λ (j : ℕ). copied j s k i y o) one_less;
      }

  module _ (w : List ℕ) (e : w ≡ run s (k + 9) 12) where
    head-is : w ≡ head
    head-is = e ∙ head-run s k (omega (arith, next-within))

    pub head-passes : head_fine w ≡ true
    head-passes = subst (λ (v : List ℕ). head_fine v ≡ true) (sym head-is) (entry-head s k next-passes)

    module _ (z : Sizes) (f : z ≡ sizes_of w) where
      size_is : size ≡ z
      size_is = sym (f ∙ ap sizes_of head-is)

      most : AtMost (more y z) t.all
      most = subst (λ (v : Sizes). AtMost (more y v) t.all) size_is next-most

      pub sizes-few : Few z
      sizes-few = subst Few size_is next-few

      pub entry-room : EntryRoom s k i y z w o
      entry-room =
          let r = t.room in
          let m = t.long in
          record {
            there = subst (λ (v : Sizes). There s k (words_in v)) size_is (within-there s k (words_in size) t.many next-within);
            head = head-is;
            sizes = f;
            few = sizes-few;
            sets = omega (arith, r.sets, m.sets);
            words = omega (arith, r.words, m.words);
            pos = omega (arith, most.pos, r.pos, m.pos);
            neg = omega (arith, most.neg, r.neg, m.neg);
            bounds = omega (arith, most.bounds, r.bounds, m.bounds);
          }

      pub addable : Addable y z
      addable =
          let g = sizes-few in
          record {
            bounds = omega (arith, t.bounds, t.few, g.bounds);
            pos = omega (arith, t.pos, t.few, g.pos);
            neg = omega (arith, t.neg, t.few, g.neg);
          }

      pub words_small : (m : ℕ) → m ≡ words_in z → k + m < 4294967296
      words_small m g = let v = g ∙ ap words_in (sym size_is) in omega (arith, next-within, t.many, v)

      pub left-next : (y' : Sizes) (m : ℕ) (o' : Source) → y' ≡ more y z → m ≡ words_in z → o' ≡ copied_entry s k i y o
          → Left s n o₀ y' (k + m) (i + 1) o'
      left-next y' m o' p q r =
          let a : more y size ≡ y' = ap (more y) size_is ∙ sym p in
          let b : k + words_in size ≡ k + m = ap (λ (j : ℕ). k + j) (ap words_in size_is ∙ sym q) in
          let c : suc i ≡ i + 1 = sym (add-one i) in
          let d : copied_entry s k i y o ≡ o' = sym r in
          transport (λ j. Left s n o₀ (a j) (b j) (c j) (d j)) next-left
