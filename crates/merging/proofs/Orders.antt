-- Any order and bracketing of merges by code is accepted where there is room and no sum is refused, and all give the same but for the sum. Request
-- L14 asks this. Assumes nothing.
use Prim.Native.Nat.{ℕ, ◌≤◌}
use mathlib.Core.Path.{◌≡◌, refl, subst}
use mathlib.Core.List.{List, ◌++◌, map, map-append, Permᴰ}
use native.Mathlib.Omega.{arith}
use Rattle.laws.specs.Lists.{All}
use Rattle.laws.specs.Trees.{Tree, leaf, node, leaves}
use Rattle.laws.specs.Counting.{most_count, sum}
use Rattle.laws.proofs.Lists.{all_left, all_right, all_map, all-perm, map-perm}
use Rattle.laws.proofs.Same.{sum_append, sum-perm}
use Rattle.points.specs.Counts.{Settings, count_of, resized}
use Rattle.points.specs.Number.{Number}
use Rattle.points.specs.Any.{Of, Same}
use Rattle.points.specs.Coded.{Coded}
use Rattle.points.proofs.Owed.{Owed}
use Rattle.point.specs.Lists.{Configured, Long}
use Rattle.merging.specs.Merged.{Good, Groups}
use Rattle.merging.proofs.Owed.{Merges}
use Rattle.merging.proofs.Groups.{any_grouping, sums-add}
use Rattle.merging.proofs.Accepted.{merges}

module _ {N : Number} (O : Owed N) (C : Coded N) (M : Merges C) where
  -- the counts together, and the sums
  abbrev counted : C.Stored → ℕ
  counted x = count_of (C.handed_in x).counts

  abbrev sums : List C.Stored → List N.Value
  sums = map (λ x. (C.handed_in x).sum)

  module _ (size : ℕ) (s : Settings) (sized : Configured (resized size s.kind)) (us vs : List ℕ) (long : Long (resized size s.kind) us vs) where
    -- what merging the leaves leaves
    record Pooled (t : Tree C.Stored) : Type 0 where
      pub left : C.Stored
      pub is : Groups C size t left
      pub good : Good C size s left
      pub count : counted left ≡ sum counted (leaves t)

    adds : (t : Tree C.Stored) (x : C.Stored) → Groups C size t x → O.Adds (C.handed_in x).sum (sums (leaves t))
    adds = sums-add O C M O.Adds O.adds_one O.adds-join size

    pooled : (t : Tree C.Stored) → All (Good C size s) (leaves t) → sum counted (leaves t) ≤ most_count → N.Within (sums (leaves t)) → Pooled t
    unfolding All
    pooled (leaf x) g n w = record { left = x; is = refl; good = g.0; count = omega arith }
    pooled (node a b) g n w =
        let e = sum_append counted (leaves a) (leaves b) in
        let v : N.Within (sums (leaves a) ++ sums (leaves b)) = subst N.Within (map-append (λ x. (C.handed_in x).sum) (leaves a) (leaves b)) w in
        let i = O.within-parts (sums (leaves a)) (sums (leaves b)) v in
        let p = pooled a (all_left (Good C size s) (leaves a) (leaves b) g) (omega (arith, e)) i.0 in
        let q = pooled b (all_right (Good C size s) (leaves a) (leaves b) g) (omega (arith, e)) i.1 in
        let j = O.adds-within (C.handed_in p.left).sum (C.handed_in q.left).sum (sums (leaves a)) (sums (leaves b))
        (adds a p.left p.is) (adds b q.left q.is) v in
        let m = merges O C M size s sized p.left q.left p.good q.good (omega (arith, e, p.count, q.count)) j us vs long in
        record {
          left = m.left;
          is = (p.left, q.left, us, vs, p.is, q.is, m.is);
          good = m.good;
          count = omega (arith, m.count, e, p.count, q.count);
        }

    -- THE LAW. Every bracketing and order is accepted in rows that suffice, and the points left are the same
    pub all_alike : (t u : Tree C.Stored) → Permᴰ (leaves t) (leaves u) → All (Good C size s) (leaves t) → sum counted (leaves t) ≤ most_count → N.Within (sums (leaves t))
        → (x : C.Stored) × (y : C.Stored) × Groups C size t x × Groups C size u y × Same N (C.handed_in x) (C.handed_in y)
    all_alike t u h g n w =
        let p = pooled t g n w in
        let k = O.within-perm (sums (leaves t)) (sums (leaves u)) (map-perm (λ x. (C.handed_in x).sum) h) w in
        let q = pooled u (all-perm (Good C size s) h g) (omega (arith, sum-perm counted h)) k in
        (p.left, q.left, p.is, q.is, any_grouping O C M size s t u p.left q.left h (all_map (Good C size s) (λ x. Of N s (C.handed_in x)) (λ x k. k.of) (leaves t) g) p.is q.is)
