-- THE NUMBERS that a histogram is of: f64 (Real.antt), or i64 by the f64 nearest to each (Whole.antt). What follows of points is said
-- and proved once, over such a record. Assumes nothing.
use Rattle.std.specs.Prelude.{ℕ, Bool, List, Float}

pub record Number : Type 1 where
  pub Value : Type 0
  -- a value that can be recorded, "6: value NaN or infinite" shut out, as a test and as a fact: an f64 that is finite; an i64
  pub taken : Value → Bool
  pub Known : Value → Type 0
  -- "Held extremes are finite"
  pub finite : Value → Bool
  -- "The bucket comes from the f64 nearest to the whole number"; of an f64 it is that
  pub near : Value → Float
  pub nears : List Value → List Float
  -- "the smaller min and larger max (equal: the first's)"
  pub lesser : Value → Value → Value
  pub greater : Value → Value → Value
  -- "Min starts at the greatest .. and max at the least"; the sum at 0
  pub greatest : Value
  pub least : Value
  pub zero : Value
  -- the sum that is held with a value more, by the sum's switch
  pub noted : Bool → Value → Value → Value
  -- whether it takes the value: "16 when the sum would leave i64 (with the sum off none is kept)"
  pub takes : Bool → Value → Value → Bool
  -- the sum of a merged point, and the number that refuses it: 0 if none does
  pub add : Value → Value → Value
  pub beyond : Value → Value → ℕ
  -- an extreme as it is handed out, as code has it
  pub Extreme : Type 0
  pub none : Extreme
  pub value : Value → Extreme
  pub is_shown : Extreme → Bool
  pub smaller : Extreme → Extreme → Extreme
  pub larger : Extreme → Extreme → Extreme
  -- "Held extremes are finite, both or neither"
  pub finite_or_none : Extreme → Extreme → Bool
  -- neither is there, or both are and are the same number, a zero's sign aside
  pub SameExtreme : Extreme → Extreme → Type 0
  -- what is said of the sum of a point that stands for values, by the sum's switch
  pub SumStands : Bool → Value → List Value → Type 0
  -- the premise under which no sum of values, however ordered and cut, is refused
  pub Within : List Value → Type 0
