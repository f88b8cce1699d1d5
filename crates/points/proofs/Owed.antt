-- WHAT A NUMBER OWES for the laws of points to hold of it: f64 (Real.antt) and i64 (Whole.antt) pay it. Assumes nothing.
use mathlib.Core.Path.{◌≡◌}
use mathlib.Core.Bool.{Bool, true, false, ◌||◌}
use mathlib.Core.List.{List, [], ◌∷◌, ◌++◌, Permᴰ}
use lib.ListN.{length}
use Rattle.laws.specs.Pick.{pick}
use Rattle.laws.specs.Lists.{All}
use Rattle.floats.specs.Starts.{FiniteF64}
use Rattle.points.specs.Number.{Number}
use Rattle.points.specs.Any.{Summary, summary_of, shown_if, extremes_agree}

module _ (N : Number) where
  -- ---- the minimum where up, otherwise the maximum
  abbrev pub chosen : Bool → N.Value → N.Value → N.Value
  chosen true a b = N.lesser a b
  chosen false a b = N.greater a b

  abbrev pub nearer : Bool → N.Extreme → N.Extreme → N.Extreme
  nearer true a b = N.smaller a b
  nearer false a b = N.larger a b

  abbrev pub extreme : Bool → Summary N → N.Value
  extreme true s = s.min
  extreme false s = s.max

  pub record Owed : Type 1 where
    -- a value that the test takes is known, and finite; of two that are finite the chosen is
    pub taken-known : (v : N.Value) → N.taken v ≡ true → N.Known v
    pub known-finite : (v : N.Value) → N.Known v → N.finite v ≡ true
    pub chosen-finite : (up : Bool) (a v : N.Value) → N.finite a ≡ true → N.finite v ≡ true → N.finite (chosen up a v) ≡ true
    -- the f64s of values: one for each, in their order, and finite
    pub nears-none : N.nears [] ≡ []
    pub nears-one : (v : N.Value) → N.nears (v ∷ []) ≡ N.near v ∷ []
    pub nears_append : (vs ws : List N.Value) → N.nears (vs ++ ws) ≡ N.nears vs ++ N.nears ws
    pub nears-perm : {vs ws : List N.Value} → Permᴰ vs ws → Permᴰ (N.nears vs) (N.nears ws)
    pub nears-length : (vs : List N.Value) → length (N.nears vs) ≡ length vs
    pub nears-known : (vs : List N.Value) → All N.Known vs → All FiniteF64 (N.nears vs)
    -- the same number: of a list's extremes in parts and in any order
    pub Same : N.Value → N.Value → Type 0
    pub number-refl : (x : N.Value) → N.Known x → Same x x
    pub extreme-known : (up sums : Bool) (vs : List N.Value) → All N.Known vs → N.Known (extreme up (summary_of N sums vs))
    pub extreme-parts : (up sums : Bool) (xs ys : List N.Value) → All N.Known xs → All N.Known ys
        → chosen up (extreme up (summary_of N sums xs)) (extreme up (summary_of N sums ys)) ≡ extreme up (summary_of N sums (xs ++ ys))
    pub extreme-perm : (up sums : Bool) {xs ys : List N.Value} → Permᴰ xs ys → All N.Known xs
        → Same (extreme up (summary_of N sums xs)) (extreme up (summary_of N sums ys))
    -- extremes as they are shown
    pub extreme-turn : (a b : N.Extreme) → N.SameExtreme a b → N.SameExtreme b a
    pub extreme-trans : (a b c : N.Extreme) → N.SameExtreme a b → N.SameExtreme b c → N.SameExtreme a c
    pub same-shown : (due : Bool) (x y : N.Value) → Same x y → N.SameExtreme (shown_if N due x) (shown_if N due y)
    pub nearer-cong : (up : Bool) (a b c d : N.Extreme) → N.SameExtreme a c → N.SameExtreme b d → N.SameExtreme (nearer up a b) (nearer up c d)
    pub nearer-shown : (up due : Bool) (x y : N.Value) → nearer up (shown_if N due x) (shown_if N due y) ≡ shown_if N due (chosen up x y)
    pub nearer-none : (up : Bool) (a : N.Extreme) → (nearer up N.none a ≡ a) × (nearer up a N.none ≡ a)
    pub not-shown : (e : N.Extreme) → N.SameExtreme e N.none → e ≡ N.none
    pub unshown : (e : N.Extreme) → N.is_shown e ≡ false → e ≡ N.none
    pub extremes-agree : (due : Bool) (a b : N.Extreme) (x y : N.Value) → N.SameExtreme a (shown_if N due x) → N.SameExtreme b (shown_if N due y)
        → extremes_agree N due a b ≡ true
    -- of a minimum and a maximum that are finite, both or neither, and another two, the chosen ones are
    pub finite-merged : (a b c d : N.Extreme) → N.finite_or_none a b ≡ true → N.finite_or_none c d ≡ true → N.finite_or_none (N.smaller a c) (N.larger b d) ≡ true
    -- an extreme that is a value, if it is there
    pub Numeric : N.Extreme → Type 0
    pub number_in : N.Extreme → N.Value
    pub shown_of : (due : Bool) (e : N.Extreme) (x : N.Value) → N.SameExtreme e (shown_if N due x) → Numeric e × (N.is_shown e ≡ due)
    pub of-shown : (due : Bool) (e : N.Extreme) → Numeric e → N.is_shown e ≡ due → N.SameExtreme e (shown_if N due (number_in e))
    pub either-shown : (up : Bool) (a b : N.Extreme) → N.is_shown (nearer up a b) ≡ N.is_shown a || N.is_shown b
    pub numeric-self : (a : N.Extreme) → Numeric a → N.SameExtreme a a
    pub numeric-nearer : (up : Bool) (a b : N.Extreme) → Numeric a → Numeric b → Numeric (nearer up a b)
    pub numeric-comm : (up : Bool) (a b : N.Extreme) → Numeric a → Numeric b → N.SameExtreme (nearer up a b) (nearer up b a)
    pub numeric-assoc : (up : Bool) (a b c : N.Extreme) → Numeric a → Numeric b → Numeric c → nearer up (nearer up a b) c ≡ nearer up a (nearer up b c)
    -- the sum
    pub sum-handed : (on : Bool) (vs : List N.Value) → N.SumStands on (pick on (summary_of N on vs).sum N.zero) vs
    pub sum-order : (on : Bool) (x : N.Value) {vs ws : List N.Value} → Permᴰ vs ws → N.SumStands on x vs → N.SumStands on x ws
    pub sum-join : (on : Bool) (x y : N.Value) (vs ws : List N.Value) → N.SumStands on x vs → N.SumStands on y ws → N.SumStands on (N.add x y) (vs ++ ws)
    -- the premise under which no merge is refused for its sum: of values as a bag, with its parts
    pub within-parts : (vs ws : List N.Value) → N.Within (vs ++ ws) → N.Within vs × N.Within ws
    pub within-perm : (vs ws : List N.Value) → Permᴰ vs ws → N.Within vs → N.Within ws
    pub sum-within : (on : Bool) (x y : N.Value) (vs ws : List N.Value) → N.SumStands on x vs → N.SumStands on y ws → N.Within (vs ++ ws) → N.beyond x y ≡ 0
    -- sums added up two by two, whatever they are the sums of
    pub Adds : N.Value → List N.Value → Type 0
    pub adds_one : (x : N.Value) → Adds x (x ∷ [])
    pub adds-join : (x y : N.Value) (vs ws : List N.Value) → Adds x vs → Adds y ws → Adds (N.add x y) (vs ++ ws)
    pub adds-within : (x y : N.Value) (vs ws : List N.Value) → Adds x vs → Adds y ws → N.Within (vs ++ ws) → N.beyond x y ≡ 0
