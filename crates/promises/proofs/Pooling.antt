-- A set's points of the parts of its values, merged by code in any order and grouping: all that `Pools` says of them. Assumes nothing.
use Prim.Native.Nat.{ℕ, ◌^◌, ◌<◌}
use mathlib.Core.Path.{◌≡◌, refl, ap, sym, subst, ◌∙◌}
use mathlib.Core.Bool.{true}
use mathlib.Core.List.{List, [], ◌∷◌, ◌++◌, map, flatten, nil≢cons, head-eq_of_cons-eq, tail-eq_of_cons-eq, Permᴰ}
use native.Mathlib.Omega.{arith}
use lib.ListN.{length}
use Rattle.laws.specs.Lists.{All}
use Rattle.laws.specs.Trees.{Tree, leaves}
use Rattle.laws.proofs.Lists.{all_left, all_right, all-perm, map-perm, length-perm}
use Rattle.laws.proofs.Perms.{flatten-perm, unmap-perm}
use Rattle.points.specs.Counts.{Settings}
use Rattle.points.specs.Number.{Number}
use Rattle.points.specs.Coded.{Coded, PointOf}
use Rattle.points.proofs.Counts.{size_of, own-size}
use Rattle.points.proofs.Owed.{Owed}
use Rattle.points.proofs.AnyPoint.{stands-order}
use Rattle.point.specs.Lists.{Configured}
use Rattle.merging.specs.Merged.{Groups}
use Rattle.merging.proofs.Owed.{Merges}
use Rattle.promises.specs.Numbers.{InRuns}
use Rattle.promises.specs.Seen.{Shows}
use Rattle.promises.specs.Pooled.{Pointed, Pools}
use Rattle.promises.proofs.Numbers.{Under, Owes}
use Rattle.promises.proofs.Groupings as G
use Rattle.promises.proofs.Groupings.{split}

module _ {N : Number} (P : InRuns N) (W : Owes P) (z : Settings) where
  abbrev C : Coded N
  C = P.coded

  abbrev O : Owed N
  O = W.owed

  abbrev M : Merges P.coded
  M = W.merges

  abbrev For : List N.Value → P.coded.Stored → Type 0
  For v x = G.For W.owed P.coded W.merges z v x

  abbrev Pair : Type 0
  Pair = G.Pair W.owed P.coded W.merges

  abbrev points : List Pair → List P.coded.Stored
  points zs = map (λ q. q.0) zs

  abbrev values : List Pair → List N.Value
  values zs = flatten (map (λ q. q.1) zs)

  abbrev Each : List Pair → Type 0
  Each zs = All (λ (q : Pair). For q.1 q.0) zs

  abbrev Able : List N.Value → Type 0
  Able = G.Able W.owed P.coded W.merges

  -- scale and offsets of a point that stands for values
  shown : Configured z.kind → (size : ℕ) → Under z.kind size → (v : List N.Value) (x : P.coded.Stored) → For v x
      → Shows z.kind z.threshold (N.nears v) (P.figures x)
  shown k size u v x f =
      W.shows z.kind z.threshold size u k (N.nears v) x f.shape (G.agreeing O C M z k size u v x f) f.stands.same.counts

  -- ---- THE POINTS OF PARTS, each with its part
  point-of : (v : List N.Value) (x : P.coded.Stored) → P.coded.handed_in x ≡ P.point_of z v → P.coded.in_shape x ≡ true → All N.Known v → PointOf C z v x
  point-of v x e s f = record { is = e ∙ W.point-is z v; shape = s; values = f }

  record Paired (ps : List P.coded.Stored) (parts : List (List N.Value)) : Type 0 where
    pairs : List Pair
    points-are : points pairs ≡ ps
    parts_are : map (λ (q : Pair). q.1) pairs ≡ parts
    each : Each pairs

  paired : (ps : List P.coded.Stored) (parts : List (List N.Value)) → map P.coded.handed_in ps ≡ map (P.point_of z) parts
      → All (λ x. P.coded.in_shape x ≡ true) ps → All N.Known (flatten parts) → Paired ps parts
  unfolding All flatten
  paired [] [] e s f = record { pairs = []; points-are = refl; parts_are = refl; each = tt }
  paired [] (v ∷ parts) e s f = absurd (nil≢cons e)
  paired (x ∷ ps) [] e s f = absurd (nil≢cons (sym e))
  paired (x ∷ ps) (v ∷ parts) e s f =
      let r = paired ps parts (tail-eq_of_cons-eq e) s.1 (all_right N.Known v (flatten parts) f) in
      let own = G.for-list O C M z v x (point-of v x (head-eq_of_cons-eq e) s.0 (all_left N.Known v (flatten parts) f)) in
      record {
        pairs = (x, v) ∷ r.pairs;
        points-are = ap (λ l. x ∷ l) r.points-are;
        parts_are = ap (λ l. v ∷ l) r.parts_are;
        each = (own, r.each);
      }

  -- each is pointed
  pub pointed : Configured z.kind → (ps : List P.coded.Stored) (parts : List (List N.Value)) → map P.coded.handed_in ps ≡ map (P.point_of z) parts
      → All (λ x. P.coded.in_shape x ≡ true) ps → All N.Known (flatten parts) → All (Pointed P z) ps
  unfolding All flatten
  pointed k [] parts e s f = tt
  pointed k (x ∷ ps) [] e s f = absurd (nil≢cons (sym e))
  pointed k (x ∷ ps) (v ∷ parts) e s f =
      let p = point-of v x (head-eq_of_cons-eq e) s.0 (all_left N.Known v (flatten parts) f) in (
        (v, p, shown k (size_of z.kind) (own-size z.kind) v x (G.for-list O C M z v x p)),
        pointed k ps parts (tail-eq_of_cons-eq e) s.1 (all_right N.Known v (flatten parts) f),
      )

  -- in another order
  record Reordered (ms : List P.coded.Stored) (vs : List N.Value) : Type 0 where
    pairs : List Pair
    points-are : ms ≡ points pairs
    each : Each pairs
    order : Permᴰ vs (values pairs)

  module _ (ps : List P.coded.Stored) (parts : List (List N.Value)) (r : Paired ps parts) (vs : List N.Value) (cut : flatten parts ≡ vs) where
    reorder : (ms : List P.coded.Stored) → Permᴰ ps ms → Reordered ms vs
    reorder ms h =
        let m = unmap-perm (λ (q : Pair). q.0) h r.pairs (sym r.points-are) in
        let o : Permᴰ (values r.pairs) (values m.0) = flatten-perm (map-perm (λ (q : Pair). q.1) m.1) in
        record {
          pairs = m.0;
          points-are = m.2;
          each = all-perm (λ (q : Pair). For q.1 q.0) m.1 r.each;
          order = subst (λ (l : List N.Value). Permᴰ l (values m.0)) (ap flatten r.parts_are ∙ cut) o;
        }

  module _ (k : Configured z.kind) (ps : List P.coded.Stored) (vs : List N.Value) (able : Able vs) (back : (ms : List P.coded.Stored) → Permᴰ ps ms → Reordered ms vs) where
    also : (ms : List P.coded.Stored) (h : Permᴰ ps ms) → Able (values (back ms h).pairs)
    also ms h =
        record {
          few = omega (arith, able.few, length-perm (back ms h).order);
          within = O.within-perm vs (values (back ms h).pairs) (back ms h).order able.within;
        }

    -- the front of what is merged, and what is not
    record Front (front : List P.coded.Stored) : Type 0 where
      pairs : List Pair
      points-are : front ≡ points pairs
      each : Each pairs
      fewer : Able (values pairs)

    front : (ms rest : List P.coded.Stored) → Permᴰ ps (ms ++ rest) → Front ms
    front ms rest h =
        let b = back (ms ++ rest) h in
        let r = split (λ (q : Pair). q.0) ms rest b.pairs b.points-are in
        let e : values b.pairs ≡ values r.0 ++ values r.1 = ap values r.2 ∙ G.values_append O C M r.0 r.1 in
        record {
          pairs = r.0;
          points-are = r.3;
          each = all_left (λ (q : Pair). For q.1 q.0) r.0 r.1 (subst Each r.2 b.each);
          fewer = G.able-left O C M (values r.0) (values r.1) (subst Able e (also (ms ++ rest) h));
        }

    -- the whole tree
    whole : (size : ℕ) → Under z.kind size → (t : Tree P.coded.Stored) → Permᴰ ps (leaves t) → (x : P.coded.Stored) → Groups C size t x → For vs x
    whole size u t h x g =
        let b = back (leaves t) h in
        let f = G.grouped O C M z k size u t b.pairs b.points-are b.each x g in
        record { stands = stands-order N O z (P.coded.handed_in x) (mathlib.Core.List.Permᴰ.symm b.order) f.stands; shape = f.shape }

    all-pooled : 0 < length ps → (size : ℕ) → Under z.kind size → Pools P z ps vs size
    all-pooled some size u =
        record {
          there = some;
          stands = λ t h x g. ((whole size u t h x g).stands, shown k size u vs x (whole size u t h x g));
          card = λ t h x g. let f = whole size u t h x g in W.card z k vs x f.shape f.stands;
          only_ten = λ s t rest h x y g j us vs n e.
              let f = front (leaves s ++ leaves t) rest h in
              G.two-ten O C M z k size u s t f.pairs f.points-are f.each f.fewer x y g j us vs n e;
          accepted = λ s t rest h x y g j us vs l.
              let f = front (leaves s ++ leaves t) rest h in
              G.two-accepted O C M z k size u s t f.pairs f.points-are f.each f.fewer x y g j us vs l;
          every = λ t h us vs l.
              let b = back (leaves t) h in
              G.ends O C M z k size u us vs l t b.pairs b.points-are b.each (also (leaves t) h);
        }

  -- THE LAW
  pub pooled : Configured z.kind → (ps : List P.coded.Stored) (parts : List (List N.Value)) (vs : List N.Value) → map P.coded.handed_in ps ≡ map (P.point_of z) parts
      → All (λ x. P.coded.in_shape x ≡ true) ps → flatten parts ≡ vs → All N.Known vs → length vs < 2 ^ 64 → N.Within vs → 0 < length ps
      → (size : ℕ) → Under z.kind size → Pools P z ps vs size
  pooled k ps parts vs e s cut f few within some =
      all-pooled k ps vs (record { few = few; within = within }) (reorder ps parts (paired ps parts e s (subst (All N.Known) (sym cut) f)) vs cut) some
