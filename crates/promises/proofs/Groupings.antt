-- Stored points of values of any number, merged by code in any grouping: what is left stands for the values together, and a merge is refused only
-- where its rows are too short. Assumes nothing.
use Prim.Native.Nat.{ℕ, ◌+◌, ◌^◌, ◌<◌}
use mathlib.Core.Path.{◌≡◌, refl, ap, sym, subst, ◌∙◌}
use mathlib.Core.Bool.{Bool, true, false, ◌&&◌}
use mathlib.Core.List.{List, [], ◌∷◌, ◌++◌, map, flatten, append-nil, append_assoc, nil≢cons, head-eq_of_cons-eq, tail-eq_of_cons-eq}
use native.Mathlib.Omega.{arith}
use lib.Dec.{leb}
use lib.ListN.{length, length-append}
use lib.Ieee.{Float}
use borrow.Author.Tests.{le-leb}
use Rattle.laws.specs.Counting.{most_count}
use Rattle.laws.specs.Lists.{All}
use Rattle.laws.specs.Pick.{pick}
use Rattle.laws.specs.Said.{refusal, success}
use Rattle.laws.specs.Trees.{Tree, leaf, node, leaves}
use Rattle.laws.proofs.Lists.{all_left, all_right}
use Rattle.index.specs.Bins.{finest, lowest_bin}
use Rattle.points.specs.Counts.{Kind, exponential, explicit, Settings, Counts, kind_counts, count_of, counts_agree, size_asked, merge_number}
use Rattle.points.specs.Number.{Number}
use Rattle.points.specs.Any.{merge_handed, shown_agrees, handed_agrees, Stands}
use Rattle.points.specs.Coded.{Coded, PointOf}
use Rattle.points.proofs.Counts.{size_of, Allows}
use Rattle.points.proofs.Owed.{Owed}
use Rattle.points.proofs.AnyPoint.{counted, handed-stands, stands-join, stands-agrees, stands-mergeable}
use Rattle.point.specs.Lists.{Configured, Long}
use Rattle.point.proofs.Lists.{long-enough}
use Rattle.point.proofs.Answers.{has_room, sound}
use Rattle.merging.specs.Merged.{Groups}
use Rattle.merging.proofs.Owed.{refusal_is, not-both, before, room_for, Merges, merged-reads}
use Rattle.promises.proofs.Numbers.{Under, same_size}

-- ---- lists that are images, in two parts
pub split : {A B : Type 0} (f : B → A) (xs ys : List A) (zs : List B) → xs ++ ys ≡ map f zs → (a : List B) × (b : List B) × (zs ≡ a ++ b) × (xs ≡ map f a) × (ys ≡ map f b)
split f [] ys zs e = ([], zs, refl, refl, e)
split f (x ∷ xs) ys [] e = absurd (nil≢cons (sym e))
split f (x ∷ xs) ys (z ∷ zs) e =
    let r = split f xs ys zs (tail-eq_of_cons-eq e) in
    (z ∷ r.0, r.1, ap (λ l. z ∷ l) r.2, (λ i. head-eq_of_cons-eq e i ∷ r.3 i), r.4)

-- ---- the size of a merge
allowed : (k : Kind) (size : ℕ) → Under k size → Allows size k
allowed (exponential m top) size u = omega (arith, same_size m top size u)
allowed (explicit bounds) size u = tt

agrees-own : (k : Kind) (t : Float) (size : ℕ) → Under k size → (v : List Float) (c : Counts) → c ≡ kind_counts k t v
    → counts_agree size finest (lowest_bin finest) c ≡ counts_agree (size_of k) finest (lowest_bin finest) c
agrees-own (exponential m top) t size u v c e = ap (λ n. counts_agree n finest (lowest_bin finest) c) (same_size m top size u)
agrees-own (explicit bounds) t size u v c e =
    ap (counts_agree size finest (lowest_bin finest)) e ∙ ap (counts_agree 0 finest (lowest_bin finest)) (sym e)

size-asked : (k : Kind) (t : Float) (size : ℕ) → Under k size → Configured k → (v w : List Float) → size_asked size (kind_counts k t v) (kind_counts k t w) ≡ true
size-asked (exponential m top) t size u k v w = ap (λ n. size_asked n (kind_counts (exponential m top) t v) (kind_counts (exponential m top) t w)) (same_size m top size u) ∙ k
size-asked (explicit bounds) t size u k v w = refl

module _ {N : Number} (O : Owed N) (C : Coded N) (M : Merges C) where
  -- a stored point that stands for values, and whose counts are there
  pub record For (z : Settings) (v : List N.Value) (x : C.Stored) : Type 0 where
    pub stands : Stands N z (C.handed_in x) v
    pub shape : C.in_shape x ≡ true

  pub for-list : (z : Settings) (v : List N.Value) (x : C.Stored) → PointOf C z v x → For z v x
  for-list z v x p = record { stands = subst (λ h. Stands N z h v) (sym p.is) (handed-stands N O z v p.values); shape = p.shape }

  count_for : (z : Settings) (v : List N.Value) (x : C.Stored) → For z v x → count_of (C.handed_in x).counts ≡ length v
  count_for z v x f = ap count_of f.stands.same.counts ∙ counted N O z v

  -- ---- TWO OF THEM MERGED
  module _ (z : Settings) (k : Configured z.kind) (size : ℕ) (u : Under z.kind size) where
    pub agreeing : (v : List N.Value) (x : C.Stored) → For z v x → handed_agrees N size finest (lowest_bin finest) (C.handed_in x) ≡ true
    agreeing v x f =
        ap (λ b. b && shown_agrees N (C.handed_in x)) (agrees-own z.kind z.threshold size u (N.nears v) (C.handed_in x).counts f.stands.same.counts)
        ∙ stands-agrees N O z (C.handed_in x) v (sound z.kind k) f.stands

    module _ (x y : C.Stored) (v w : List N.Value) (p : For z v x) (q : For z w y) where
      joins : Stands N z (merge_handed N size (C.handed_in x) (C.handed_in y)) (v ++ w)
      joins =
          subst (λ s. Stands N s (merge_handed N size (C.handed_in x) (C.handed_in y)) (v ++ w))
          (λ i. record { kind = u i; extremes = z.extremes; sums = z.sums; threshold = z.threshold })
          (stands-join N O size z (C.handed_in x) (C.handed_in y) v w (allowed z.kind size u) p.stands q.stands)

      -- accepted: what is left stands for both
      pub merged_for : (a : C.Stored) (us vs : List ℕ) → C.merging size x y us vs ≡ success a → For z (v ++ w) a
      merged_for a us vs e =
          let m = merged-reads C M size x y a us vs e in
          record { stands = subst (λ h. Stands N z h (v ++ w)) (sym m.0) joins; shape = m.1 }

      module _ (few : length v + length w < 2 ^ 64) (within : N.Within (v ++ w)) (us vs : List ℕ) where
        free : before C size x y ≡ 0
        unfolding pick
        free =
            let i = C.handed_in x in
            let j = C.handed_in y in
            let a : size_asked size i.counts j.counts ≡ true =
            (λ t. size_asked size (p.stands.same.counts t) (q.stands.same.counts t)) ∙ size-asked z.kind z.threshold size u k (N.nears v) (N.nears w) in
            let n : leb (count_of i.counts + count_of j.counts) most_count ≡ true =
            le-leb (count_of i.counts + count_of j.counts) most_count (omega (arith, few, count_for z v x p, count_for z w y q)) in
            λ t. merge_number (a t) ((p.shape t && q.shape t) && (agreeing v x p t && agreeing w y q t)) (stands-mergeable N O z i j v w (sound z.kind k) p.stands q.stands t) (n t)
            (O.sum-within z.sums i.sum j.sum v w p.stands.sum q.stands.sum within t)

        -- in rows with room for any point
        pub made : Long z.kind us vs → (a : C.Stored) × (C.merging size x y us vs ≡ success a)
        made l =
            let r : room_for C size x y us vs ≡ true =
            ap (λ c. has_room c us vs) joins.same.counts
            ∙ long-enough z.kind z.threshold (N.nears (v ++ w)) us vs k (O.nears-known (v ++ w) joins.values) l in
            let m = M.leaves size x y us vs free r in
            (m.left, m.is)

        -- refused: with 10
        pub merged-ten : (n : ℕ) → C.merging size x y us vs ≡ refusal n → n ≡ 10
        merged-ten n e = go (room_for C size x y us vs) refl
          where
            go : (b : Bool) → room_for C size x y us vs ≡ b → n ≡ 10
            go true r = let m = M.leaves size x y us vs free r in not-both n m.left (sym e ∙ m.is)
            go false r = refusal_is {A = C.Stored} n 10 (sym e ∙ M.short size x y us vs free r)

    -- THE LAW OF TWO: the points of two lists, in rows with room for any list
    pub two-lists : (v w : List N.Value) → length v + length w < 2 ^ 64 → N.Within (v ++ w) → (x y : C.Stored) → PointOf C z v x → PointOf C z w y
        → (us vs : List ℕ) → Long z.kind us vs → (a : C.Stored) × (C.merging size x y us vs ≡ success a) × Stands N z (C.handed_in a) (v ++ w)
    two-lists v w few within x y p q us vs l =
        let f = for-list z v x p in
        let g = for-list z w y q in
        let m = made x y v w f g few within us vs l in
        (m.0, m.1, (merged_for x y v w f g m.0 us vs m.1).stands)

  -- ---- BY ANY GROUPING: stored points with their values
  abbrev pub Pair : Type 0
  Pair = C.Stored × List N.Value

  abbrev pub points : List Pair → List C.Stored
  points zs = map (λ q. q.0) zs

  abbrev pub values : List Pair → List N.Value
  values zs = flatten (map (λ q. q.1) zs)

  pub values_append : (a b : List Pair) → values (a ++ b) ≡ values a ++ values b
  unfolding flatten
  values_append [] b = refl
  values_append (q ∷ a) b = ap (λ l. q.1 ++ l) (values_append a b) ∙ sym (append_assoc q.1 (values a) (values b))

  abbrev pub Each : Settings → List Pair → Type 0
  Each z zs = All (λ (q : Pair). For z q.1 q.0) zs

  -- few values, within the premise
  pub record Able (vs : List N.Value) : Type 0 where
    pub few : length vs < 2 ^ 64
    pub within : N.Within vs

  able-parts : (v w : List N.Value) → Able (v ++ w) → Able v × Able w
  able-parts v w a =
      let n = length-append v w in
      let p = O.within-parts v w a.within in
      (record { few = omega (arith, n, a.few); within = p.0 }, record { few = omega (arith, n, a.few); within = p.1 })

  pub able-left : (v w : List N.Value) → Able (v ++ w) → Able v
  able-left v w a = (able-parts v w a).0

  module _ (z : Settings) (k : Configured z.kind) (size : ℕ) (u : Under z.kind size) where
    -- the pairs of two trees' leaves
    record Halves (s t : Tree C.Stored) (zs : List Pair) : Type 0 where
      first : List Pair
      second : List Pair
      first-is : leaves s ≡ points first
      second_is : leaves t ≡ points second
      first-each : Each z first
      second-each : Each z second
      whole : values zs ≡ values first ++ values second

    halves : (s t : Tree C.Stored) (zs : List Pair) → leaves s ++ leaves t ≡ points zs → Each z zs → Halves s t zs
    halves s t zs e f =
        let r = split (λ (q : Pair). q.0) (leaves s) (leaves t) zs e in
        let j : Each z (r.0 ++ r.1) = subst (Each z) r.2 f in
        record {
          first = r.0;
          second = r.1;
          first-is = r.3;
          second_is = r.4;
          first-each = all_left (λ (q : Pair). For z q.1 q.0) r.0 r.1 j;
          second-each = all_right (λ (q : Pair). For z q.1 q.0) r.0 r.1 j;
          whole = ap values r.2 ∙ values_append r.0 r.1;
        }

    pub grouped : (t : Tree C.Stored) (zs : List Pair) → leaves t ≡ points zs → Each z zs → (x : C.Stored) → Groups C size t x → For z (values zs) x
    unfolding flatten All
    grouped (leaf a) [] e f x g = absurd (nil≢cons (sym e))
    grouped (leaf a) (q ∷ r ∷ zs) e f x g = absurd (nil≢cons (tail-eq_of_cons-eq e))
    grouped (leaf a) (q ∷ []) e f x g =
        subst (λ v. For z v x) (sym (append-nil q.1)) (subst (For z q.1) (sym (head-eq_of_cons-eq e) ∙ g) f.0)
    grouped (node s t) zs e f x (a, b, us, vs, g, h, m) =
        let r = halves s t zs e f in
        let p = grouped s r.first r.first-is r.first-each a g in
        let q = grouped t r.second r.second_is r.second-each b h in
        subst (λ v. For z v x) (sym r.whole) (merged_for z k size u a b (values r.first) (values r.second) p q x us vs m)

    -- what two groupings left, merged
    module _ (s t : Tree C.Stored) (zs : List Pair) (e : leaves s ++ leaves t ≡ points zs) (f : Each z zs) (n : Able (values zs)) (x y : C.Stored)
        (g : Groups C size s x) (h : Groups C size t y) (us vs : List ℕ) where
      abbrev r : Halves s t zs
      r = halves s t zs e f

      p : For z (values r.first) x
      p = grouped s r.first r.first-is r.first-each x g

      q : For z (values r.second) y
      q = grouped t r.second r.second_is r.second-each y h

      able : Able (values r.first ++ values r.second)
      able = subst Able r.whole n

      few : length (values r.first) + length (values r.second) < 2 ^ 64
      few = omega (arith, able.few, length-append (values r.first) (values r.second))

      pub two-ten : (i : ℕ) → C.merging size x y us vs ≡ refusal i → i ≡ 10
      two-ten i d = merged-ten z k size u x y (values r.first) (values r.second) p q few able.within us vs i d

      pub two-accepted : Long z.kind us vs → (a : C.Stored) × (C.merging size x y us vs ≡ success a)
      two-accepted l = made z k size u x y (values r.first) (values r.second) p q few able.within us vs l

    pub ends : (us vs : List ℕ) → Long z.kind us vs → (t : Tree C.Stored) (zs : List Pair) → leaves t ≡ points zs → Each z zs → Able (values zs) → (x : C.Stored) × Groups C size t x
    ends us vs l (leaf a) zs e f n = (a, refl)
    ends us vs l (node s t) zs e f n =
        let r = halves s t zs e f in
        let i = able-parts (values r.first) (values r.second) (subst Able r.whole n) in
        let a = ends us vs l s r.first r.first-is r.first-each i.0 in
        let b = ends us vs l t r.second r.second_is r.second-each i.1 in
        let o = two-accepted s t zs e f n a.0 b.0 a.1 b.1 us vs l in
        (o.0, (a.0, b.0, us, vs, a.1, b.1, o.1))
