-- The points of slots read back from lent output as the points of their series. Assumes nothing.
use Prim.Native.Nat.{ℕ}
use mathlib.Core.Path.{◌≡◌, refl, sym, ap, ◌∙◌}
use mathlib.Core.Bool.{Bool, true, false}
use mathlib.Core.List.{List, []}
use native.Mathlib.Omega.{arith}
use lib.ListN.{length, take, replicate, length-replicate}
use lib.Seq.{take_all, length-take-le}
use lib.Ieee.{Float}
use Rattle.laws.specs.Pick.{pick}
use Rattle.laws.specs.Over.{over}
use Rattle.laws.proofs.Over.{take-over}
use Rattle.points.specs.Explicit.{Buckets, bucket_count, buckets_of}
use Rattle.points.specs.Values.{start}
use Rattle.points.specs.Figures.{Settings, Figures, explicit_counts}
use Rattle.points.specs.Handed.{handed_out}
use Rattle.kinds.specs.Histograms.{histograms}
use Rattle.explicit.specs.declared.Head.{Head}
use Rattle.explicit.specs.Series.{buckets_in, summary}
use Rattle.explicit.proofs.Listed.{fresh-is}
use Rattle.explicit_slots.specs.Cells.{Cells, Room, head_at, counts_at}
use Rattle.value_map.specs.Explicit.{explicit_store}
use Rattle.value_map.proofs.Owed.{was}
use Rattle.point.specs.Handing.{stored_in, handed_in, explicit_point}
use Rattle.point.specs.declared.Point.{Point}
use Rattle.listing.specs.Words.{words_of}
use Rattle.listing.specs.Listed.{bounds_at, found_at}
use Rattle.listing.proofs.Back as Back
use Rattle.listing.proofs.Given.{explicit-held}
use Rattle.collecting.proofs.Fits.{Fitting, start_fits}
use Rattle.collecting.specs.Read.{span_of, AllFit}
use Rattle.collecting.proofs.Owed.{Finds, Listed}
use Rattle.collecting.proofs.Finds.{finds-stored, finds-handed}
use Rattle.explicit_collection.specs.Points.{explicit_lister}
use Rattle.explicit_collection.proofs.Slots.{counts-long, buckets-are}

-- ---- the floats of a head are f64s

abbrev pub HeadFits : Head → Type 0
HeadFits h = Fitting h.min h.max h.sum

pub head-fits : (c : Cells) (x : ℕ) (u : Bool) → AllFit c.extremes → HeadFits (head_at c x u)
unfolding pick
head-fits c x true l = record { min = l x 0; max = l x 1; sum = l x 2 }
head-fits c x false l = start_fits

-- ---- a slot's head and counts are its series, or a fresh one

pub fresh-buckets : (bounds : List Float) → buckets_in bounds 0 (replicate (bucket_count bounds) 0) ≡ buckets_of bounds []
fresh-buckets bounds =
    let zeros : List ℕ = replicate (bucket_count bounds) 0 in
    let n = length-replicate {A = ℕ} (bucket_count bounds) 0 in
    let same : take (bucket_count bounds) zeros ≡ take (bucket_count bounds) (over zeros []) =
    take_all (bucket_count bounds) zeros (omega (arith, n)) ∙ sym (ap (λ (k : ℕ). take k (over zeros [])) (sym n) ∙ take-over zeros []) in
    (λ j. record { counts = same j; total = 0 }) ∙ fresh-is bounds []

module _ (bounds : List Float) (extremes sums : Bool) (c : Cells) (x : ℕ) where
  abbrev z : Settings
  z = (explicit_store bounds).settings (extremes, sums)

  abbrev series : Bool → Figures
  series u = was (explicit_store bounds) (extremes, sums) c x u

  series-is : (u : Bool) → record { counts = explicit_counts bounds (buckets_in bounds (head_at c x u).count (counts_at bounds c x u)); summary = summary (head_at c x u) } ≡ series u
  unfolding pick
  series-is true = refl
  series-is false = ap (λ (b : Buckets). record { counts = explicit_counts bounds b; summary = start }) (fresh-buckets bounds)

  module _ (u : Bool) (l : AllFit c.extremes) (r : Room bounds c x) where
    abbrev p : Point
    p = explicit_point (head_at c x u) extremes sums

    held : Back.Held p (span_of bounds)
    held = let f = head-fits c x u l in explicit-held extremes sums (head_at c x u) (span_of bounds) f.min f.max f.sum

    -- what the series hands out
    out-is : handed_in (stored_in p (bounds_at (span_of bounds) bounds) (counts_at bounds c x u) []) ≡ handed_out z (series u)
    out-is =
        ap (λ (b : List Float). handed_in (stored_in p b (counts_at bounds c x u) [])) (take_all (length bounds) bounds (omega arith))
        ∙ ap (handed_out z) (series-is u)

    -- it is found as it is stored
    pub finds : Finds (found_at bounds) (words_of p (span_of bounds)) (counts_at bounds c x u) [] (stored_in p (bounds_at (span_of bounds) bounds) (counts_at bounds c x u) [])
    finds = finds-stored bounds p (span_of bounds) (counts_at bounds c x u) [] held (counts-long bounds c.counts x r.counts u ∙ sym (buckets-are bounds)) refl

    -- THE EXPLICIT KIND PAYS what it owes of its points
    pub explicit-lists : Listed (explicit_lister bounds) (extremes, sums) c x u
    explicit-lists =
        let n = counts-long bounds c.counts x r.counts u in
        record {
          found = finds-handed bounds (words_of p (span_of bounds)) (counts_at bounds c x u) [] _ _ finds out-is;
          pos = ap (λ (y : Figures). histograms.pos (handed_out z y)) (sym (series-is u))
              ∙ length-take-le (bucket_count bounds) (counts_at bounds c x u) (omega (arith, n))
              ∙ sym n;
          neg = ap (λ (y : Figures). histograms.neg (handed_out z y)) (sym (series-is u));
        }
