-- A walk over the slots: the number that refuses the call, and what is known where nothing bars it. Assumes nothing.
use Prim.Native.Nat.{ℕ, ◌≤◌, ◌<◌, min}
use mathlib.Core.Path.{◌≡◌, refl, ap, ◌∙◌}
use mathlib.Core.Bool.{Bool, true, false, ◌&&◌}
use mathlib.Core.List.{List, []}
use native.Mathlib.Omega.{arith}
use borrow.Author.Tests.{leb-true, eqb-true}
use lib.Dec.{leb, eqb}
use lib.ListN.{length, get_or}
use Rattle.laws.specs.Pick.{pick}
use Rattle.laws.proofs.Bools.{pick-left, pick-then}
use Rattle.laws.proofs.Cases.{and-true}
use Rattle.tally.specs.Kind.{Kind}
use Rattle.sets.specs.Rows.{size}
use Rattle.directory.specs.View.{Stores, agreesb}
use Rattle.directory.specs.Calls.{Kept, most_sets, stores_suffice}
use Rattle.directory.specs.declared.Directory.{Directory}
use Rattle.directory.proofs.Agreed.{slot-sizes, place-slot}
use Rattle.directory.proofs.Laws.{few, slots-right, places-right}
use Rattle.directory.proofs.Refusals.{suffices}
use Rattle.value_map.specs.Store.{Store}
use Rattle.value_map.specs.Calls.{Held}
use Rattle.value_map.proofs.Owed.{Owed}
use Rattle.listing.specs.Listed.{Output}
use Rattle.collecting.specs.Lister.{Lister}
use Rattle.collecting.specs.Collected.{slots_of, agreeing, roomy, uncollected}
use Rattle.collecting.specs.Slots.{unsurveyed, unsound, surveyed_by, walked, Walk, counted, surveyed}
use Rattle.collecting.specs.declared.Survey.{Survey}
use Rattle.collecting.proofs.Numbers.{or_else}

-- ---- the number that refuses

numbers : (a b c d e : Bool) (n : ℕ) → or_else (pick a (pick (b && (c && d)) 0 8) 12) (pick e n 8) ≡ pick a (pick (b && (c && (d && e))) n 8) 12
unfolding or_else pick
numbers false b c d e n = refl
numbers true false c d e n = refl
numbers true true false d e n = refl
numbers true true true false e n = refl
numbers true true true true true n = refl
numbers true true true true false n = refl

found : (e : Bool) (s : Survey) (sets words pos neg : ℕ) → s.sound ≡ true
    → surveyed_by (pick e s unsound) sets words pos neg ≡ pick e (pick (leb s.points (min sets words) && (leb s.pos pos && leb s.neg neg)) 0 10) 8
unfolding surveyed_by pick
found true s sets words pos neg a = rw a
found false s sets words pos neg a = refl

pub number_is : {K : Kind} {S : Store K} (L : Lister S) (w : S.Switches) (cumulative : Bool) (limit : ℕ) (h : Held S.Cells) (o : Output)
    → or_else (unsurveyed (S.suffices limit h.cells) S.unset limit h.kept.dir h.kept.stores)
    (surveyed_by (surveyed L w cumulative h) (length o.sets) (length o.words) (length o.pos) (length o.neg))
    ≡ uncollected L w cumulative limit h o
unfolding surveyed unsurveyed uncollected roomy
number_is {S = S} L w cumulative limit h o =
    ap (or_else (unsurveyed (S.suffices limit h.cells) S.unset limit h.kept.dir h.kept.stores))
    (found (agreeing L w h) (counted L w cumulative h (slots_of h.kept)) (length o.sets) (length o.words) (length o.pos) (length o.neg) refl)
    ∙ numbers (stores_suffice limit h.kept.stores && S.suffices limit h.cells) (eqb S.unset 0) (leb limit most_sets) (agreesb limit h.kept.dir h.kept.stores) (agreeing L w h) _

-- ---- what is known where nothing bars the call

pub record Open (cells : Bool) (unset limit : ℕ) (d : Directory) (s : Stores) : Type 0 where
  pub stores : stores_suffice limit s ≡ true
  pub lent : cells ≡ true
  pub set : unset ≡ 0
  pub few : limit ≤ most_sets
  pub agrees : agreesb limit d s ≡ true

pub open_of : (cells : Bool) (unset limit : ℕ) (d : Directory) (s : Stores) → unsurveyed cells unset limit d s ≡ 0 → Open cells unset limit d s
unfolding unsurveyed
open_of cells unset limit d s e =
    let a = and-true (stores_suffice limit s) cells (pick-left (stores_suffice limit s && cells) _ 12 (omega arith) e) in
    let t = pick-left (eqb unset 0 && (leb limit most_sets && agreesb limit d s)) 0 8 (omega arith) (pick-then (stores_suffice limit s && cells) _ 12 (omega arith) e) in
    let b = and-true (eqb unset 0) _ t in
    let c = and-true (leb limit most_sets) (agreesb limit d s) b.1 in
    record { stores = a.0; lent = a.1; set = eqb-true unset 0 b.0; few = leb-true limit most_sets c.0; agrees = c.1 }

-- the call of `sweep::sweep`
abbrev pub Sweepable : Kept → Type 0
Sweepable k =
    let n = k.dir.used in
    let s = k.stores in
    (n < length s.sets) × (n < length s.entries) × (n ≤ length s.order) × (n < 65536)
    × ((i : ℕ) → i < n → (1 ≤ get_or s.order i 0) × (get_or s.order i 0 ≤ n))

module _ {K : Kind} (S : Store K) (limit : ℕ) (h : Held S.Cells) (g : Open (S.suffices limit h.cells) S.unset limit h.kept.dir h.kept.stores) where
  abbrev d : Directory
  d = h.kept.dir

  abbrev s : Stores
  s = h.kept.stores

  pub sweepable : Sweepable h.kept
  sweepable =
      let r = suffices limit s g.stores in
      let f = few limit d s g.agrees in
      let m = g.few in (
        omega (arith, r.sets),
        omega (arith, r.entries),
        omega (arith, r.order),
        omega (arith, r.order),
        place-slot d.used s.sets s.order (places-right limit d s g.agrees),
      )

  -- a walk over the map, whatever sets it reads
  pub walk_of : Owed S → (sets : List (List ℕ)) → Walk S (walked h.kept.dir.used sets h.kept.stores.entries h.kept.stores.order h.cells)
  walk_of W sets =
      let q = sweepable in
      record {
        set = g.set;
        most = q.3;
        order = q.2;
        entries = λ x n. omega (arith, q.1);
        slots = q.4;
        room = λ x n. W.room limit h.cells x g.lent (omega (arith, few limit d s g.agrees));
      }

  -- the call of `row_at`
  pub row-there : (x : ℕ) → x ≤ d.used → (x < length s.sets) × (0 < x → size (get_or s.sets x []) ≤ 8)
  row-there x n = (omega (arith, sweepable.0), λ p. (slot-sizes d.used d.last s.sets s.entries (slots-right limit d s g.agrees) x (omega arith) n).1)
