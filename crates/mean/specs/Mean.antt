-- What the call answers: the mean of a point in hundredths, or the number that refuses it (request L2, the blade card). Assumes nothing.
use Rattle.std.specs.Prelude.{ℕ, Bool, ◌&&◌, leb, eqb, ℤ, nat_abs, Float}
use Rattle.laws.specs.Pick.{pick}
use Rattle.laws.specs.Said.{Said, refusal, success}
use Rattle.floats.specs.Grid.{steps, is_whole, most_steps}
use Rattle.points.specs.Handed.{count_of}
use Rattle.point.specs.Handing.{Stored, counts_in, agrees_alone}
use Rattle.whole_point.specs.Handing as W
use Rattle.mean.specs.Rounding.{hundredths}

-- "14 when the sum is not a whole number of 1/1024 or its magnitude is above 2^43"
unfoldable pub on_grid : Float → Bool
on_grid x = is_whole x && leb (nat_abs (steps x)) most_steps

-- of a count and a sum: "13 when the count is 0, then 14 .."; else the mean. Both zeros are no steps, so their mean is 0
unfoldable pub mean_of : ℕ → Float → Said ℤ
mean_of count sum = pick (eqb count 0) (refusal 13) (pick (on_grid sum) (success (hundredths (steps sum) count)) (refusal 14))

-- of a point as it is stored: "Answers, after 8 (under size 160 and scale 10)"
unfoldable pub mean_in : Stored → Said ℤ
mean_in x = pick (agrees_alone x) (mean_of (count_of (counts_in x)) x.point.sum) (refusal 8)

-- of one of i64 values. Document 02, L6: "An i64 point gives 11 .. right after 8, in a card or sheet"
abbrev pub whole_mean_in : W.Stored → Said ℤ
whole_mean_in x = refusal (W.alone_number x)
