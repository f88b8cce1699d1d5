-- A value after `raise` has tried: where the row has its bin nothing is lowered and one count is one more. One law for both signs. Assumes nothing.
use Rattle.std.proofs.Common.{◌≡◌, ℕ, ◌+◌, ◌-◌, ◌/◌, ◌^◌, ◌<◌, ◌≤◌, min, max, Bool, true, false, List, length, take, sym, ◌∙◌, subst, div-one, arith}
use Rattle.index.specs.Bins.{finest, lowest_bin, end_bin}
use Rattle.points.specs.Points.{plus}
use Rattle.laws.proofs.Bools.{pick_true, pick-false}
use Rattle.rows.specs.Rows.{over, recorded, recorded_from, holds}
use Rattle.rows.specs.declared.Row.{Row}
use Rattle.rows.proofs.Adds.{inside, holds-says}
use Rattle.rows.proofs.Change.{change-is}
use Rattle.exponential.specs.declared.Counts.{Counts}
use Rattle.exponential.specs.declared.Class.{Class}
use Rattle.exponential.specs.declared.Class.TheVariants.{At}
use Rattle.exponential.specs.Steps.{lowered, with1, lowering, placed}
use Rattle.exponential.specs.Series.{row_in, read}
use Rattle.exponential.specs.Inner.{Laid, Written, lower_by, row_to, row_other, one_more, Room, Ready, signed, Beside, Raised, Tried}
use Rattle.exponential.proofs.Facts.{Agreed, agreed, agreed-agrees, pos-facts, neg-facts, level_in}
use Rattle.exponential.proofs.Rowed.{RowFacts, short, bins-some, downscaled-zero, laid_same}
use Rattle.exponential.proofs.Write.{needed_in, few_levels, room, written-plus, swapped, written-swap}

within : (size s n b : ℕ) → s ≤ b → b - s < n → n ≤ size → (min s b ≡ s) × ((max (s + (n - 1)) b ≡ s + (n - 1)) × (s + (n - 1) - s < size))
within size s n b l h g = (omega arith, (omega arith, omega arith))

module _ (size : ℕ) (r : Row) (xs : List ℕ) (bin : ℕ) (there : r.len ≤ length xs) (short : r.len ≤ size) (has : holds r.start r.len bin ≡ true) where
  abbrev s : ℕ
  s = r.start

  abbrev n : ℕ
  n = r.len

  -- the row is not lowered
  pub stays : 0 ≡ lower_by size r xs bin
  stays =
      let q = holds-says s n bin has in
      let w = within size s n bin q.0 q.1 short in
      let e = bins-some s n bin (omega (arith, q.1)) in
      let z : (x : ℕ) → x / 2 ^ 0 ≡ x = λ x. div-one x in
      let i : 0 ≡ lowering size s (s + (n - 1)) = change-is size s (s + (n - 1)) 0 (omega arith) (rw (z s, z (s + (n - 1))) w.1.1) (λ d l. absurd (omega (arith, l))) in
      i
      ∙ (λ j. lowering size (sym (e.0 ∙ w.0) j) (sym (e.1 ∙ w.1.0) j))
      ∙ needed_in size r xs bin there

  -- the row with one more, and the other as it was
  raised-zero : (ys : List ℕ) → ys ≡ over (recorded s (take n xs) bin) xs → Laid (with1 (lowered 0 (row_in r xs)) (bin / 2 ^ 0)) xs r ys
  raised-zero ys e =
      let q = holds-says s n bin has in
      let d = inside xs s n bin (omega (arith, q.1)) there q.0 q.1 in
      let a : s ≡ s / 2 ^ 0 = sym (div-one s) in
      let b : bin ≡ bin / 2 ^ 0 = sym (div-one bin) in
      let l = sym (downscaled-zero s (take n xs)) in
      record {
        start = d.0 ∙ (λ j. recorded_from (a j) (l j) (b j));
        len = d.1.0 ∙ (λ j. length (recorded (a j) (l j) (b j)));
        now = e ∙ (λ j. over (recorded (a j) (l j) (b j)) xs);
      }

  pub raised-to : (ys : List ℕ) → ys ≡ over (recorded s (take n xs) bin) xs → Laid (row_to size r xs bin) xs r ys
  raised-to ys e = subst (λ (k : ℕ). Laid (with1 (lowered k (row_in r xs)) (bin / 2 ^ k)) xs r ys) stays (raised-zero ys e)

  pub raised-other : (o : Row) (zs : List ℕ) → o.len ≤ length zs → Laid (row_other size r xs o zs bin) zs o zs
  raised-other o zs h = laid_same o zs (lower_by size r xs bin) (sym stays) h

-- ---- a value above zero that can be added

module _ (size top : ℕ) (c : Counts) (xs ys : List ℕ) (bin : ℕ) (h : Ready size top c xs ys (At false bin)) where
  facts : Agreed size top c xs ys
  facts = agreed size top c xs ys h.agree

  own : RowFacts size (lowest_bin c.level) (end_bin c.level) c.pos xs
  own = pos-facts size top c xs ys facts

  level : c.level ≤ finest
  level = level_in size top c xs ys facts

  pub room_at : Room size c.pos xs c.neg ys bin
  room_at =
      room size c.level bin c.pos xs facts.least level own h.known c.neg ys (neg-facts size top c xs ys facts) h.pos
      (omega (arith, facts.point.adds, h.count))

  pub levels-at : lower_by size c.pos xs bin ≤ c.level
  levels-at = few_levels size c.level bin c.pos xs facts.least level own h.known

  -- `put` moved the rows
  pub put-at : (k : ℕ) (to other : Row) (xs' ys' : List ℕ) → k ≡ lower_by size c.pos xs bin
      → Laid (row_to size c.pos xs bin) xs to xs' → Laid (row_other size c.pos xs c.neg ys bin) ys other ys'
      → Written (placed size (read c xs ys) (plus bin)) xs ys (one_more c k to other) xs' ys'
  put-at k to other xs' ys' e p n = written-plus size c xs ys level bin k to other xs' ys' (omega (arith, e, levels-at)) e p n

  -- `raise` found the bin
  raise-at : (r : Bool) (xs' ys' : List ℕ) → Raised c.pos bin r xs ys xs' ys' → r ≡ true
      → Written (placed size (read c xs ys) (plus bin)) xs ys (one_more c 0 c.pos c.neg) xs' ys'
  raise-at r xs' ys' q e =
      let t = facts.pos_there in
      let s = short size (lowest_bin c.level) (end_bin c.level) c.pos xs own in
      let g = sym q.has ∙ e in
      subst (λ (zs : List ℕ). Written (placed size (read c xs ys) (plus bin)) xs ys (one_more c 0 c.pos c.neg) xs' zs) (sym q.beside)
      (written-plus size c xs ys level bin 0 c.pos c.neg xs' ys (omega arith)
      (stays size c.pos xs bin t s g)
      (raised-to size c.pos xs bin t s g xs' (q.here ∙ pick_true r _ _ e))
      (raised-other size c.pos xs bin t s g c.neg ys facts.neg_there))

-- ---- and one of either sign: below zero the rows change places

pub ready-swap : (size top : ℕ) (c : Counts) (xs ys : List ℕ) (bin : ℕ) → Ready size top c xs ys (At true bin) → Ready size top (swapped c) ys xs (At false bin)
ready-swap size top c xs ys bin h =
    let k = agreed size top c xs ys h.agree in
    record {
      agree = agreed-agrees size top (swapped c) ys xs
          (record {
            least = k.least;
            most = k.most;
            greatest = k.greatest;
            level = k.level;
            pos_there = k.neg_there;
            neg_there = k.pos_there;
            point = record {
              fine = k.point.fine;
              coarse = k.point.coarse;
              pos = k.point.neg;
              neg = k.point.pos;
              adds = omega (arith, k.point.adds);
            };
          });
      pos = h.neg;
      neg = h.pos;
      count = h.count;
      known = h.known;
    }

module _ (size top : ℕ) (c : Counts) (xs ys : List ℕ) (bin : ℕ) (r : Bool) (xs' ys' : List ℕ) where
  pub tried_in : (negative : Bool) → Ready size top c xs ys (At negative bin) → Tried negative c.pos c.neg bin r xs ys xs' ys' → r ≡ true
      → Written (placed size (read c xs ys) (signed negative bin)) xs ys (one_more c 0 c.pos c.neg) xs' ys'
  tried_in true h q e =
      written-swap size bin c (one_more (swapped c) 0 c.neg c.pos) xs ys xs' ys'
      (raise-at size top (swapped c) ys xs bin (ready-swap size top c xs ys bin h) r ys' xs' q e)
  tried_in false h q e = raise-at size top c xs ys bin h r xs' ys' q e

  -- nothing is written where it has not
  tried-out : (negative : Bool) → Tried negative c.pos c.neg bin r xs ys xs' ys' → r ≡ false → (xs' ≡ xs) × (ys' ≡ ys)
  tried-out true q e = (q.beside, q.here ∙ pick-false r _ _ e)
  tried-out false q e = (q.here ∙ pick-false r _ _ e, q.beside)

  module _ (negative : Bool) (q : Tried negative c.pos c.neg bin r xs ys xs' ys') (e : r ≡ false) where
    pub still-ready : Ready size top c xs ys (At negative bin) → Ready size top c xs' ys' (At negative bin)
    still-ready h = let o = tried-out negative q e in rw (o.0, o.1) h

    pub still-written : (n : Counts) (zs ws : List ℕ) → Written (placed size (read c xs' ys') (signed negative bin)) xs' ys' n zs ws
        → Written (placed size (read c xs ys) (signed negative bin)) xs ys n zs ws
    still-written n zs ws h = let o = tried-out negative q e in rw (o.0, o.1) at h

-- both rows are there in both lists
pub beside-of : (size top : ℕ) (c : Counts) (xs ys : List ℕ) (k : Class) → Ready size top c xs ys k → Beside c.pos xs c.neg ys
beside-of size top c xs ys k h =
    let f = agreed size top c xs ys h.agree in
    let p = short size (lowest_bin c.level) (end_bin c.level) c.pos xs (pos-facts size top c xs ys f) in
    let n = short size (lowest_bin c.level) (end_bin c.level) c.neg ys (neg-facts size top c xs ys f) in
    record {
      pos = (f.pos_there, omega (arith, h.neg));
      neg = (f.neg_there, omega (arith, h.pos));
      pos_counts = omega (arith, f.point.adds, h.count);
      neg_counts = omega (arith, f.point.adds, h.count);
    }
