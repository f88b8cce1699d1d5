-- What is told of every run beside demand 3's answers. Assumes nothing.
use Rattle.std.specs.Prelude.{ℕ, ◌<◌, ◌≡◌, Bool, true, not, ◌||◌, List, [], map, eqb}
use Rattle.std.proofs.Math.Option.{some}
use Rattle.laws.specs.Lists.{only}
use Rattle.laws.specs.Counting.{bit, sum}
use Rattle.laws.specs.Tests.{all}
use Rattle.tally.specs.Sets.{Set, same, of_set, mem}
use Rattle.tally.specs.Kind.{Kind}
use Rattle.tally.specs.Map.{Config, Entry, Map, Call, measure, measure_by, bind, release, collect}
use Rattle.tally.specs.Map.{Answer, refuse, done, handle, listed, named, points, filled, keys}
use Rattle.tally.specs.Tally.{Tally, empty, after}
use Rattle.tally.specs.Demand.{any, Premise, Code, asked, left, ran}

-- "every named entry is listed .. The empty series is listed only if updated"
abbrev pub listed? : Bool → Set → Bool
listed? has s = not (same s []) || has

module _ (K : Kind) where
  -- answered neither 8, "directory or touched series disagrees with itself", nor 12, "a lent .. store under .."
  abbrev pub quiet : Answer K → Bool
  quiet a = elim a [ refuse n ↦ not (eqb n 8 || eqb n 12) | done ↦ true | handle b ↦ true | listed ps ↦ true ]

  -- a cumulative collection of the map m would list the points of the values that wait in the tally t, and every set that has any is there
  pub record Listed (m : Map K) (t : Tally K) : Type 0 where
    pub shown : points K m.settings (map (filled K m.settings) m.entries)
        ≡ map (λ s. (s, K.point_of m.settings (of_set s t.waiting))) (only (λ s. listed? (any K (of_set s t.waiting)) s) (keys K m.entries))
    pub every : (s : Set) → any K (of_set s t.waiting) ≡ true → mem s (keys K m.entries) ≡ true

  -- the handle h names an entry of the set s, with more than n bindings
  abbrev pub Names : ℕ → Set → ℕ → Map K → Type 0
  Names h s n m = (e : Entry K) × (named K h m.entries ≡ some e) × (e.set ≡ s) × (n < e.bindings)

  -- 1 for a call that releases h
  abbrev pub releasing : ℕ → Call K → ℕ
  releasing h x = elim x [ measure v attrs ↦ 0 | measure_by i v ↦ 0 | bind attrs ↦ 0 | release i ↦ bit (eqb i h) | collect room ↦ 0 ]

  -- of code whose states stand for maps
  pub record Tells (c : Config K) (C : Code K) (view : C.State → Map K) : Type 0 where
    -- no call makes stores that disagree, nor outgrows them: with no premise, none is answered 8 or 12
    pub quietly : (xs : List C.Input) → all quiet (ran K C xs) ≡ true
    -- "it joins the set's waiting values": each value is in its own set's series and none in overflow's in its stead, as a cumulative
    -- collection would show
    pub own : (xs : List C.Input) → Premise K c (asked K C xs) (ran K C xs)
        → Listed (view (left K C C.first xs)) (after K c (empty K c) (asked K C xs) (ran K C xs))
    -- "a set keeps its number while that has a binding": with no premise, a handle names the same set after any calls that release it fewer times
    -- than it has bindings
    pub naming : (h : ℕ) (s : Set) (xs ys : List C.Input) → Names h s (sum (releasing h) (asked K C ys)) (view (left K C C.first xs))
        → Names h s 0 (view (left K C (left K C C.first xs) ys))
