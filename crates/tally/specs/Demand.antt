-- Demand 3: its premise, what it claims of answers and points, and the code that it is claimed of. Assumes nothing.
use Rattle.std.specs.Prelude.{ℕ, ◌^◌, ◌≤◌, ◌<◌, ◌≡◌, Bool, true, false, eqb, length}
use mathlib.Core.List.{List, [], ◌∷◌, ◌++◌, map, flatten}
use Rattle.std.proofs.Math.Option.{some}
use Rattle.laws.specs.Pick.{pick}
use Rattle.laws.specs.Tests.{all}
use Rattle.laws.specs.Counting.{sum}
use Rattle.tally.specs.Sets.{Set, Lendable, of_set, ascending, canonical}
use Rattle.tally.specs.Kind.{Kind}
use Rattle.tally.specs.Map.{Config, Call, measure, measure_by, bind, release, collect, Answer, refuse, done, handle, listed}
use Rattle.tally.specs.Tally.{Tally, empty, tell, fed, after}

-- a set, unless it is the empty one
abbrev pub if_named : Set → List Set
if_named s = elim s [ [] ↦ [] | x ∷ l ↦ (x ∷ l) ∷ [] ]

module _ (K : Kind) where
  -- THE PREMISE. "Recordings and bindings, refused ones counted, are fewer than 2^64"
  abbrev pub counted : Call K → ℕ
  counted x = elim x [ measure v attrs ↦ 1 | measure_by h v ↦ 1 | bind attrs ↦ 1 | release h ↦ 0 | collect room ↦ 0 ]

  -- "Accepted: answered 0". Counted with them are the calls refused with 16 (L6), which no f64 kind gives: 16 is of the sum of the series that
  -- the value comes to, so a value on one set too many could be refused for the sum of overflow's, which the tally does not know
  abbrev pub seated : Answer K → Bool
  seated a = elim a [ refuse n ↦ eqb n 16 | done ↦ true | handle b ↦ true | listed ps ↦ true ]

  -- the named set that a call is on; a handle's is that of a binding accepted before
  abbrev pub set_of : Config K → Call K → List Set
  set_of c x =
      let on : Set → List Set = λ attrs. if_named (canonical c.filter attrs) in
      elim x [ measure v attrs ↦ on attrs | measure_by h v ↦ [] | bind attrs ↦ on attrs | release h ↦ [] | collect room ↦ [] ]

  -- the named sets of these calls
  abbrev pub sets : Config K → List (Call K) → List (Answer K) → List Set
  sets c [] ans = []
  sets c (x ∷ xs) [] = []
  sets c (x ∷ xs) (a ∷ ans) = pick (seated a) (set_of c x) [] ++ sets c xs ans

  -- "the accepted ones on no more unlike named sets than the limit"
  pub record Premise (c : Config K) (xs : List (Call K)) (ans : List (Answer K)) : Type 0 where
    pub fewer : sum counted xs < 2 ^ 64
    pub unlike : length (ascending (sets c xs ans)) ≤ c.limit

  -- THE ANSWERS. "No birth number gets two sets, and a set keeps its number while that has a binding."
  pub record Own (t : Tally K) (s : Set) (b : ℕ) : Type 0 where
    pub one : (r : Set) → t.owner b ≡ some r → r ≡ s
    pub kept : (i : ℕ) → t.owner i ≡ some s → 0 < t.bindings i → b ≡ i

  abbrev pub Owned : Config K → Tally K → Call K → Answer K → Type 0
  Owned c t x a = (attrs : Set) (b : ℕ) → x ≡ bind attrs → a ≡ handle b → Own t (canonical c.filter attrs) b

  -- "each call's number and each list of points collected is that of document 01's tally"
  abbrev pub Right : Config K → Tally K → List (Call K) → List (Answer K) → Type 0
  Right c t [] [] = Unit
  Right c t [] (a ∷ ans) = ⊥
  Right c t (x ∷ xs) [] = ⊥
  Right c t (x ∷ xs) (a ∷ ans) =
      (a ≡ (tell K c t x (fed K a)).answer) × Owned c t x a × Right c (tell K c t x (fed K a)).tally xs ans

  -- THE POINTS. Those of the set s among the answers, in order
  abbrev pub points_of : Set → List (Answer K) → List K.Point
  points_of s [] = []
  points_of s (a ∷ ans) = elim a [ refuse n ↦ [] | done ↦ [] | handle b ↦ [] | listed ps ↦ of_set s ps ] ++ points_of s ans

  abbrev pub any : List K.Value → Bool
  any vs = elim vs [ [] ↦ false | v ∷ l ↦ true ]

  -- the set's collected values
  abbrev pub gained : Config K → List (Call K) → List (Answer K) → Set → List K.Value
  gained c xs ans s = of_set s (after K c (empty K c) xs ans).collected

  -- "wherever collections cut": the points are those of the parts, none empty, of a cutting of the values
  pub record Cut (z : K.Settings) (ps : List K.Point) (vs : List K.Value) : Type 0 where
    pub parts : List (List K.Value)
    pub full : all any parts ≡ true
    pub values : flatten parts ≡ vs
    pub points : ps ≡ map (K.point_of z) parts

  -- demand 3's first part, for any kind
  pub record Answered (c : Config K) (xs : List (Call K)) (ans : List (Answer K)) : Type 0 where
    pub right : Right c (empty K c) xs ans
    pub cut : (s : Set) → Cut c.settings (points_of s ans) (gained c xs ans s)

  -- the calls whose arguments can be lent: attributes of u32s and a handle that is a u64, any value, any room
  abbrev pub InRange : Call K → Type 0
  InRange x =
      elim x [ measure v attrs ↦ Lendable attrs | measure_by h v ↦ h < 2 ^ 64 | bind attrs ↦ Lendable attrs | release h ↦ h < 2 ^ 64 | collect room ↦ Unit ]

  -- CODE, after configuring: its states with the lent stores, what its calls are given (arguments in range, times, lent output), which call of
  -- demand 3 each asks, what each answers and leaves, and the state that configuring left
  pub record Code : Type 1 where
    pub State : Type 0
    pub Input : Type 0
    pub asks : Input → Call K
    pub call : State → Input → Answer K × State
    pub first : State

  -- "Take any list of these calls, refused ones included": what is asked, what is answered, and the state left, where "each call is given the
  -- state and lent stores as the last one left them"
  abbrev pub asked : (C : Code) → List C.Input → List (Call K)
  asked C xs = map C.asks xs

  abbrev pub answers : (C : Code) → C.State → List C.Input → List (Answer K)
  answers C s [] = []
  answers C s (x ∷ xs) = (C.call s x).0 ∷ answers C (C.call s x).1 xs

  abbrev pub left : (C : Code) → C.State → List C.Input → C.State
  left C s [] = s
  left C s (x ∷ xs) = left C (C.call s x).1 xs

  -- "It runs from a fresh start under one configuration"
  abbrev pub ran : (C : Code) → List C.Input → List (Answer K)
  ran C xs = answers C C.first xs
