-- A kind of series: what the map and the tally ask of it; and, for any kind, configuration, calls and answers. Assumes nothing.
-- Document 01 has two, the exponential and the explicit histogram over f64. Later: sums and last values (L1, no count and no merge),
-- histograms over i64 (L6, with a refusal of their own), a zero threshold (L7, one more of the settings).
use Rattle.std.specs.Prelude.{ℕ, Bool, true, false, ◌&&◌, List, [], ◌∷◌, leb, length}
use Rattle.std.proofs.Math.Option.{Option, none, some}
use Rattle.laws.specs.Counting.{sum}
use Rattle.tally.specs.Sets.{Set}

-- refused with the number n unless the test passes
abbrev pub unless : Bool → ℕ → Option ℕ
unless b n = elim b [ true ↦ none | false ↦ some n ]

-- the order of refusals is the order of the list
abbrev pub first_of : List (Option ℕ) → Option ℕ
first_of [] = none
first_of (none ∷ l) = first_of l
first_of (some n ∷ l) = some n

pub record Kind : Type 1 where
  -- what is configured for a series; the map and the tally hold it, so that a call can change it in both (L10)
  pub Settings : Type 0
  -- configuring accepts them (exponential: 1 and 2; explicit: 3)
  pub valid : Settings → Bool
  pub Value : Type 0
  pub Series : Type 0
  pub Point : Type 0
  -- "6: value NaN or infinite"
  pub finite : Value → Bool
  -- the series without values
  pub fresh : Settings → Series
  -- the series with one value more
  pub add : Settings → Series → Value → Series
  -- "8: directory or touched series disagrees with itself"
  pub agrees : Settings → Series → Bool
  -- "9: a count .. would pass 2^64 - 1"; 0 for a kind that keeps no count (L1)
  pub total : Series → ℕ
  -- 16, after 9, where this fails: it does not in document 01 (L6: "16 when the sum would leave i64")
  pub allows : Settings → Series → Value → Bool
  -- the point that a collection hands out, the switches applied
  pub point : Settings → Series → Point
  -- the counts that a point takes in the positive and in the negative count store of lent output (explicit: all in the first)
  pub pos : Point → ℕ
  pub neg : Point → ℕ
  -- document 01's definition: the point of a list of values
  pub point_of : Settings → List Value → Point
  -- `allows`, told from the values recorded before
  pub allowed : Settings → List Value → Value → Bool

-- lent output: places for points, and for counts in each of "two lent stores of u64, positive and negative"
pub record Room : Type 0 where
  pub points : ℕ
  pub pos : ℕ
  pub neg : ℕ

module _ (K : Kind) where
  -- "10: lent output too short for all points or counts"
  abbrev pub suffices : Room → List K.Point → Bool
  suffices room ps = leb (length ps) room.points && (leb (sum K.pos ps) room.pos && leb (sum K.neg ps) room.neg)

  pub record Config : Type 0 where
    pub settings : K.Settings
    pub limit : ℕ
    pub filter : Option (List ℕ)

  -- what a collection hands out: each listed set with its point
  abbrev pub Points : Type 0
  Points = List (Set × K.Point)

  -- the calls of demand 3: recording by set or handle, binding, releasing, delta collection (L10: a change of settings)
  pub data Call : Type 0 where
    measure : K.Value → Set → Call
    measure_by : ℕ → K.Value → Call
    bind : Set → Call
    release : ℕ → Call
    collect : Room → Call

  -- a refusal's number; success, which is 0, with its result
  pub data Answer : Type 0 where
    refuse : ℕ → Answer
    done : Answer
    handle : ℕ → Answer
    listed : Points → Answer
