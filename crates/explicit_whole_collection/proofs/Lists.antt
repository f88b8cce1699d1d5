-- The points of slots read back from lent output as the points of their series. Assumes nothing.
use Prim.Native.Nat.{ℕ}
use mathlib.Core.Path.{◌≡◌, refl, sym, ap, ◌∙◌}
use mathlib.Core.Bool.{Bool, true, false}
use mathlib.Core.List.{List, []}
use native.Mathlib.Omega.{arith}
use lib.ListN.{length}
use lib.Seq.{take_all, length-take-le}
use lib.Ieee.{Float}
use Rattle.laws.specs.Pick.{pick}
use Rattle.points.specs.Explicit.{Buckets, bucket_count}
use Rattle.points.specs.Counts.{Settings, explicit_counts}
use Rattle.points.specs.Any.{Figures, start, handed_out}
use Rattle.points.specs.Whole.{whole}
use Rattle.kinds.specs.Wholes.{wholes}
use Rattle.explicit.specs.Series.{buckets_in}
use Rattle.explicit_wholes.specs.declared.Head.{Head}
use Rattle.explicit_wholes.specs.Series.{summary}
use Rattle.explicit_whole_slots.specs.Cells.{Cells, Room, head_at, counts_at}
use Rattle.whole_map.specs.Explicit.{explicit_wholes}
use Rattle.value_map.proofs.Owed.{was}
use Rattle.whole_point.specs.Handing.{stored_in, handed_in, explicit_point}
use Rattle.whole_point.specs.declared.Point.{Point}
use Rattle.listing.specs.Listed.{bounds_at}
use Rattle.collecting.specs.Read.{span_of}
use Rattle.collecting.proofs.Owed.{Finds, Listed, Lists}
use Rattle.whole_listing.specs.Words.{words_of}
use Rattle.whole_listing.specs.Listed.{found_at}
use Rattle.whole_listing.specs.Read.{AllHeld}
use Rattle.whole_listing.proofs.Back as Back
use Rattle.whole_listing.proofs.Given.{explicit-held}
use Rattle.whole_listing.proofs.Fits.{Fitting, start_fits}
use Rattle.whole_listing.proofs.Finds.{finds-stored, finds-handed}
use Rattle.explicit_collection.proofs.Slots.{counts-long, buckets-are}
use Rattle.explicit_collection.proofs.Lists.{fresh-buckets}
use Rattle.explicit_whole_collection.specs.Points.{explicit_whole_lister}

-- ---- the numbers of a head are i64s

abbrev pub HeadFits : Head → Type 0
HeadFits h = Fitting h.min h.max h.sum

pub head-fits : (c : Cells) (x : ℕ) (u : Bool) → AllHeld c.extremes → HeadFits (head_at c x u)
unfolding pick
head-fits c x true l = record { min = l x 0; max = l x 1; sum = l x 2 }
head-fits c x false l = start_fits

-- ---- a slot's head and counts are its series, or a fresh one

module _ (bounds : List Float) (sums extremes : Bool) (c : Cells) (x : ℕ) where
  abbrev z : Settings
  z = (explicit_wholes bounds sums).settings extremes

  abbrev series : Bool → Figures whole
  series u = was (explicit_wholes bounds sums) extremes c x u

  series-is : (u : Bool) → record { counts = explicit_counts bounds (buckets_in bounds (head_at c x u).count (counts_at bounds c x u)); summary = summary (head_at c x u) } ≡ series u
  unfolding pick
  series-is true = refl
  series-is false = ap (λ (b : Buckets). record { counts = explicit_counts bounds b; summary = start whole }) (fresh-buckets bounds)

  module _ (u : Bool) (l : AllHeld c.extremes) (r : Room bounds c x) where
    abbrev p : Point
    p = explicit_point (head_at c x u) extremes sums

    held : Back.Held p (span_of bounds)
    held = let f = head-fits c x u l in explicit-held extremes sums (head_at c x u) (span_of bounds) f.min f.max f.sum

    long : length (counts_at bounds c x u) ≡ bucket_count bounds
    long = counts-long bounds c.counts x r.counts u

    -- what the series hands out
    out-is : handed_in (stored_in p (bounds_at (span_of bounds) bounds) (counts_at bounds c x u) []) ≡ handed_out whole z (series u)
    out-is =
        ap (λ (b : List Float). handed_in (stored_in p b (counts_at bounds c x u) [])) (take_all (length bounds) bounds (omega arith))
        ∙ ap (handed_out whole z) (series-is u)

    -- it is found as it is stored
    pub finds : Finds (found_at bounds) (words_of p (span_of bounds)) (counts_at bounds c x u) [] (stored_in p (bounds_at (span_of bounds) bounds) (counts_at bounds c x u) [])
    finds = finds-stored bounds p (span_of bounds) (counts_at bounds c x u) [] held (long ∙ sym (buckets-are bounds)) refl

    listed : Listed (explicit_whole_lister bounds sums) extremes c x u
    listed =
        record {
          found = finds-handed bounds (words_of p (span_of bounds)) (counts_at bounds c x u) [] _ _ finds out-is;
          pos = ap (λ (y : Figures whole). wholes.pos (handed_out whole z y)) (sym (series-is u))
              ∙ length-take-le (bucket_count bounds) (counts_at bounds c x u) (omega (arith, long))
              ∙ sym long;
          neg = ap (λ (y : Figures whole). wholes.neg (handed_out whole z y)) (sym (series-is u));
        }

-- THE EXPLICIT KIND OVER i64 PAYS what it owes of its points
pub explicit-whole-lists : (bounds : List Float) (sums extremes : Bool) → Lists (explicit_whole_lister bounds sums) extremes
explicit-whole-lists bounds sums extremes c x u on l r s = listed bounds sums extremes c x u l r
