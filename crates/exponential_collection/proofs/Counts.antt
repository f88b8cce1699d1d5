-- The words and rows of one slot, whatever numbers lie beside them: they agree exactly where the code's tests pass; then a point of them is as
-- long as they say. For the kind over f64 and over i64. Assumes nothing.
use Prim.Native.Nat.{ℕ, ◌-◌, ◌≤◌, ◌<◌}
use mathlib.Core.Path.{◌≡◌, refl, sym, ap, subst, ◌∙◌}
use mathlib.Core.Logic.{⊎_elim}
use mathlib.Core.Bool.{Bool, true, false, not, ◌&&◌, ◌||◌}
use mathlib.Core.List.{List, []}
use native.Mathlib.Omega.{arith}
use borrow.Author.Tests.{le-leb}
use lib.Dec.{leb}
use lib.ListN.{length, get_or, take}
use lib.Seq.{length-take-le, take-take}
use Rattle.laws.specs.Pick.{pick}
use Rattle.laws.proofs.Bools.{flag, not-both, and_left, and_intro, pick_true}
use Rattle.index.specs.Bins.{finest}
use Rattle.points.specs.Points.{point_of}
use Rattle.points.specs.Counts.{exponential, exponential_counts}
use Rattle.exponential.specs.declared.Counts.{Counts}
use Rattle.exponential.specs.Series as S
use Rattle.exponential.specs.Series.{read}
use Rattle.exponential.specs.Runs.{fresh_head}
use Rattle.exponential.proofs.Lists.{fresh_holds}
use Rattle.kinds.specs.Any.{counts_hold}
use Rattle.exponential_slots.specs.Cells.{counts_in, narrow, readable}
use Rattle.exponential_slots.specs.Meaning.{shaped, counts_at}
use Rattle.exponential_slots.proofs.Cases.{narrow-says, reads_held, reads-fresh}
use Rattle.exponential_slots.proofs.Agreeing.{Accepted, accepted-of, shaped-says, counts_in_lem, in-shape, holds-is, can-read, series-agrees, shape_of, point_agrees}
use Rattle.value_map.specs.Exponential.{unset}
use Rattle.value_map.proofs.ExponentialOwes.{unset-valid}
use Rattle.listing.specs.Inner as Listed
use Rattle.listing.specs.Listed.{Output}
use Rattle.listing.specs.declared.Cursor.{Cursor}
use Rattle.collecting.specs.Read.{span_of}
use Rattle.collecting.specs.Slots.{Place}
use Rattle.point.specs.Handing.{figures_shaped}
use Rattle.point.specs.declared.Figures.TheVariants.{Exponential}

-- what agrees with its numbers, if it is there, agrees without them
pub without : (updated a b : Bool) → (not updated || (a && b)) ≡ true → (not updated || a) ≡ true
without true a b h = and_left a b h
without false a b h = refl

-- words and rows that agree
record Agreeing (size top : ℕ) (f xs ys : List ℕ) : Type 0 where
  shape : shaped size f ≡ true
  reads : narrow f ≡ true
  counts : S.agrees size top (counts_in f) xs ys ≡ true

-- the counts k of a slot that agrees, if it holds a series, else of a fresh one
pub record Laid (size top : ℕ) (f xs ys : List ℕ) (updated : Bool) (k : Counts) : Type 0 where
  -- a head can be read
  pub reads : readable updated f ≡ true
  -- a fresh series has no counts, one that is held those that its words say
  pub pos_len : pick updated (get_or f 4 0) 0 ≡ k.pos.len
  pub neg_len : pick updated (get_or f 6 0) 0 ≡ k.neg.len
  -- they lie within the slot's parts, of max_size
  pub pos_short : k.pos.len ≤ size
  pub neg_short : k.neg.len ≤ size
  -- as a list takes it: a level that there is, and bins that are u32
  pub level : k.level ≤ finest
  pub pos : k.pos.start < 4294967296
  pub neg : k.neg.start < 4294967296
  -- the series' counts are those of the rows
  pub is : pick updated (counts_at size f xs ys) (exponential_counts (point_of size (finest - top) [])) ≡ exponential_counts (read k xs ys)

module _ (size top : ℕ) (set : unset size top ≡ 0) (f xs ys : List ℕ) (p : length xs ≡ size) (q : length ys ≡ size) where
  accepted : Accepted size top
  accepted = accepted-of size top (unset-valid size top set)

  abbrev pub holds : Bool
  holds = counts_hold (exponential size top) (counts_at size f xs ys)

  agreeing-of : holds ≡ true → Agreeing size top f xs ys
  agreeing-of a =
      let s = in-shape size f xs ys top accepted a in
      let k = sym (holds-is size f xs ys top accepted s) ∙ a in
      record { shape = s; reads = can-read size f xs ys top accepted p q s k; counts = series-agrees size f xs ys top accepted p q s k }

  -- ---- the code's tests, in their order

  no : (holds ≡ true → ⊥) → false ≡ holds
  no d = ⊎_elim (λ (a : holds ≡ true). absurd (d a)) (λ (a : holds ≡ false). sym a) (flag holds)

  pub unread : narrow f ≡ false → false ≡ holds
  unread h = no (λ a. not-both (narrow f) (agreeing-of a).reads h)

  pub by-counts : narrow f ≡ true → S.agrees size top (counts_in f) xs ys ≡ holds
  by-counts n =
      let t = S.agrees size top (counts_in f) xs ys in
      ⊎_elim
      (λ (h : t ≡ true).
      h ∙ sym (holds-is size f xs ys top accepted (shape_of size f xs ys top accepted p q n h) ∙ point_agrees size f xs ys top accepted p q h))
      (λ (h : t ≡ false). h ∙ no (λ a. not-both t (agreeing-of a).counts h))
      (flag t)

  -- ---- a series that is there and agrees, and a fresh one

  laid-held : Agreeing size top f xs ys → Laid size top f xs ys true (counts_in f)
  unfolding pick
  laid-held g =
      let s = shaped-says size f g.shape in
      let n = narrow-says f g.reads in
      record {
        reads = reads_held true f refl ∙ g.reads;
        pos_len = refl;
        neg_len = refl;
        pos_short = s.pos;
        neg_short = s.neg;
        level = s.level;
        pos = omega (arith, n.pos);
        neg = omega (arith, n.neg);
        is = counts_in_lem size f xs ys g.shape;
      }

  laid-fresh : Laid size top f xs ys false (fresh_head top).counts
  unfolding pick
  laid-fresh =
      let z = accepted in
      record {
        reads = reads-fresh false f refl;
        pos_len = refl;
        neg_len = refl;
        pos_short = omega arith;
        neg_short = omega arith;
        level = z.fine;
        pos = omega arith;
        neg = omega arith;
        is = ap exponential_counts (sym (fresh_holds size top xs ys z.least z.most z.fine (omega (arith, p)) (omega (arith, q))).rows);
      }

  pub laid : (updated : Bool) (k : Counts) → (not updated || holds) ≡ true → (updated ≡ true → k ≡ counts_in f) → (updated ≡ false → k ≡ (fresh_head top).counts)
      → Laid size top f xs ys updated k
  laid true k a held fresh = subst (Laid size top f xs ys true) (sym (held refl)) (laid-held (agreeing-of a))
  laid false k a held fresh = subst (Laid size top f xs ys false) (sym (fresh refl)) laid-fresh

  -- ---- its point

  module _ (updated : Bool) (k : Counts) (l : Laid size top f xs ys updated k) where
    pub pos-length : length (take k.pos.len xs) ≡ k.pos.len
    pos-length = length-take-le k.pos.len xs (omega (arith, l.pos_short, p))

    pub neg-length : length (take k.neg.len ys) ≡ k.neg.len
    neg-length = length-take-le k.neg.len ys (omega (arith, l.neg_short, q))

    -- what is counted of the slot is at most max_size
    pub few : (pick updated (get_or f 4 0) 0 ≤ 160) × (pick updated (get_or f 6 0) 0 ≤ 160)
    few = (omega (arith, l.pos_len, l.pos_short, accepted.most), omega (arith, l.neg_len, l.neg_short, accepted.most))

    pub words-few : updated ≡ true → (get_or f 4 0 ≤ 160) × (get_or f 6 0 ≤ 160)
    words-few u = (omega (arith, few.0, pick_true updated (get_or f 4 0) 0 u), omega (arith, few.1, pick_true updated (get_or f 6 0) 0 u))

    pub put-room : (at : Cursor) (o : Output) → Place at o (length (take k.pos.len xs)) (length (take k.neg.len ys))
        → Listed.Room at (Exponential k) (span_of []) xs ys o
    put-room at o g =
        record {
          sets = g.sets;
          words = g.words;
          pos = omega (arith, g.pos, pos-length);
          neg = omega (arith, g.neg, neg-length);
          lent = omega (arith, l.pos_short, p);
          lent_neg = omega (arith, l.neg_short, q);
        }

    -- it is a point in shape
    pub point-shaped : figures_shaped (Exponential k) (take k.pos.len xs) (take k.neg.len ys) ≡ true
    point-shaped =
        let a = leb k.pos.len (length (take k.pos.len xs)) in
        let b = leb k.neg.len (length (take k.neg.len ys)) in
        and_intro (leb k.level finest) (a && b) (le-leb k.level finest l.level)
        (and_intro a b (le-leb k.pos.len _ (omega (arith, pos-length))) (le-leb k.neg.len _ (omega (arith, neg-length))))

-- the first counts of the rows are all that is read of them
pub read_first : (k : Counts) (xs ys : List ℕ) → read k (take k.pos.len xs) (take k.neg.len ys) ≡ read k xs ys
read_first k xs ys =
    let n = k.pos.len in
    let m = k.neg.len in
    λ i.
    record {
      d = finest - k.level;
      pos = record { start = k.pos.start; counts = take-take n n xs (omega arith) i };
      neg = record { start = k.neg.start; counts = take-take m m ys (omega arith) i };
      zeros = k.zeros;
      total = k.count;
    }
