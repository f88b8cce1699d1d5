-- One slot: its series agrees exactly where the code's tests pass, whatever the sum's switch and the extremes; the zeros of a fresh series.
-- Assumes nothing.
use Prim.Native.Nat.{ℕ, zero, suc, ◌≤◌}
use mathlib.Core.Path.{◌≡◌, refl, ap, ◌∙◌}
use mathlib.Core.Bool.{Bool, true, false, ◌&&◌}
use mathlib.Core.List.{List, [], ◌∷◌, ◌++◌}
use native.Mathlib.Omega.{arith}
use lib.IntN.{ℤ}
use lib.ListN.{length, get_or, take, replicate, length-replicate}
use lib.Ieee.{Float}
use Rattle.laws.specs.Pick.{pick}
use Rattle.rows.specs.Parts.{part_at}
use Rattle.points.specs.Explicit.{bucket_count, buckets_agree}
use Rattle.kinds.specs.Wholes.{wholes}
use Rattle.explicit.specs.Series.{buckets_in}
use Rattle.directory.specs.View.{updated_in}
use Rattle.explicit_whole_slots.specs.Cells.{Cells, cells, counts_at, series_at}
use Rattle.whole_map.specs.Explicit.{explicit_wholes}
use Rattle.collecting.specs.Collected.{due_of, counts_of, agreeing}
use Rattle.collecting.specs.Slots.{unsound, walked, Walk, surveyed}
use Rattle.explicit_whole_collection.specs.Points.{explicit_whole_lister}
use Rattle.explicit_whole_collection.specs.Ready.{counting}

-- ---- agreement

and-on : (b : Bool) → b ≡ (b && (true && true))
and-on true = refl
and-on false = refl

module _ (bounds : List Float) (c : Cells) (x : ℕ) where
  -- whether the slot's series agrees: the switches have no part in it
  abbrev pub agrees_at : Bool
  agrees_at = wholes.agrees ((explicit_wholes bounds true).settings true) (series_at bounds c x)

  -- as the code tests it
  pub tested : (n : ℕ) → n ≡ bucket_count bounds → (b : Bool) → b ≡ buckets_agree bounds (buckets_in bounds (get_or c.totals x 0) (part_at n c.counts x))
      → b ≡ agrees_at
  tested n is b e = e ∙ ap (λ (n : ℕ). buckets_agree bounds (buckets_in bounds (get_or c.totals x 0) (part_at n c.counts x))) is ∙ and-on _

-- ---- the survey reads counts alone

module _ (bounds : List Float) (sums : Bool) (used : ℕ) (entries : List (List ℕ)) (order : List ℕ) (totals : List ℕ) (extremes : List (List ℤ)) (counts : List ℕ) where
  pub walk-counts : Walk (explicit_wholes bounds sums) (walked used [] entries order (cells totals extremes counts))
      → Walk (explicit_wholes bounds true) (walked used [] entries order (counting totals counts))
  walk-counts w =
      record {
        set = w.set;
        most = w.most;
        order = w.order;
        entries = w.entries;
        slots = w.slots;
        room = λ x h.
            let r = w.room x h in
            record { totals = r.totals; extremes = omega (arith, r.totals, length-replicate {A = List ℤ} (length totals) []); counts = r.counts };
      }

  -- what is counted is the same of either
  counted : (count : Cells → ℕ → Bool → List ℕ) → ((x : ℕ) (u : Bool) → count (counting totals counts) x u ≡ count (cells totals extremes counts) x u) → (l : List ℕ)
      → counts_of count (walked used [] entries order (counting totals counts)) l ≡ counts_of count (walked used [] entries order (cells totals extremes counts)) l
  counted count same [] = refl
  counted count same (x ∷ l) = λ j. same x (updated_in entries x) j ++ counted count same l j

  pub survey-counts : (cumulative : Bool) → surveyed (explicit_whole_lister bounds true) true cumulative (walked used [] entries order (counting totals counts))
      ≡ surveyed (explicit_whole_lister bounds sums) true cumulative (walked used [] entries order (cells totals extremes counts))
  unfolding surveyed
  survey-counts cumulative =
      let h = walked used [] entries order (cells totals extremes counts) in
      let l = due_of cumulative h.kept in
      λ j. pick (agreeing (explicit_whole_lister bounds sums) true h)
      (record { sound = true; points = length l; pos = length (counted (counts_at bounds) (λ x u. refl) l j); neg = length (counted (λ c x u. []) (λ x u. refl) l j) })
      unsound

-- ---- zeros

pub zeros-front : (n m : ℕ) → n ≤ m → take n (replicate m 0) ≡ take n (replicate {A = ℕ} n 0)
zeros-front zero m h = refl
zeros-front (suc n) zero h = absurd (none h)
  where
    none : suc n ≤ 0 → ⊥
    none k = omega arith
zeros-front (suc n) (suc m) h = ap (λ (l : List ℕ). 0 ∷ l) (zeros-front n m (omega arith))
