-- THE TWO NUMBERS that histograms are of, f64 and i64 (request L6), as a run meets them: their points as code stores and merges them, as they lie in
-- lists, and what a card says of them. What is promised of runs is said once, over such a record. Assumes nothing.
use Rattle.std.specs.Prelude.{◌≡◌, List, Float}
use Rattle.std.proofs.Math.Option.{Option}
use Rattle.floats.specs.Grid.{Gridded}
use Rattle.points.specs.Counts.{Settings}
use Rattle.points.specs.Number.{Number}
use Rattle.points.specs.Any.{Handed}
use Rattle.points.specs.Coded.{Coded}
use Rattle.points.specs.Real.{real}
use Rattle.points.specs.Whole.{whole}
use Rattle.points.specs.Handed as Real
use Rattle.point.specs.declared.Figures.{Figures}
use Rattle.point.specs.Lists.{real_points}
use Rattle.whole_point.specs.Handing.{alone_number}
use Rattle.whole_point.specs.Lists.{whole_points}
use Rattle.mean.specs.Mean.{mean_in}
use Rattle.mean.specs.Values.{mean_of_all}
use Rattle.tally.specs.Kind.{Kind}
use Rattle.kinds.specs.Any.{histograms_of}
use Rattle.kinds.specs.Wholes as Whole
use Rattle.listing.specs.Listed as Listing
use Rattle.listing.specs.Listed.{Output}
use Rattle.listing.specs.declared.Cursor.{Cursor}
use Rattle.whole_listing.specs.Listed as WholeListing

pub record InRuns (N : Number) : Type 1 where
  pub coded : Coded N
  -- document 01's point of a list of values
  pub point_of : Settings → List N.Value → Handed N
  -- what a point shows scale and offsets by
  pub figures : coded.Stored → Figures
  -- the point that lies at a cursor of a list, its bounds in a store beside it, and the cursor of the next
  pub found : List Float → Cursor → Output → Option (coded.Stored × Cursor)
  -- what a card says of a point that stands for values under the settings
  pub Card : Settings → List N.Value → coded.Stored → Type 0

-- the two histogram kinds over the number
abbrev pub kind_of : {N : Number} → InRuns N → Kind
kind_of {N} P = histograms_of N P.point_of

-- Request L2: the card of a point is the card of its values, where these are whole 1/1024ths whose magnitudes total at most 2^43
abbrev pub reals : InRuns real
reals =
    record {
      coded = real_points;
      point_of = Real.handed;
      figures = λ x. x.point.figures;
      found = Listing.found_at;
      Card = λ z vs x. Gridded vs → mean_in x ≡ mean_of_all z.sums vs;
    }

-- Request L6: "An i64 point gives 11 .. right after 8, in a card or sheet"
abbrev pub wholes : InRuns whole
wholes =
    record {
      coded = whole_points;
      point_of = Whole.handed;
      figures = λ x. x.point.figures;
      found = WholeListing.found_at;
      Card = λ z vs x. alone_number x ≡ 11;
    }
