-- The exponential kind pays what it owes, by the laws of `exponential_slots`. Assumes nothing.
use Prim.Native.Nat.{ℕ, ◌+◌, ◌≤◌, ◌<◌}
use mathlib.Core.Path.{◌≡◌, ◌∙◌}
use mathlib.Core.Bool.{true}
use mathlib.Core.List.{List, [], ◌∷◌}
use native.Mathlib.Omega.{arith}
use lib.Dec.{leb}
use lib.ListN.{length}
use lib.Ieee.{Float}
use borrow.Author.Tests.{le-leb, lt-leb}
use Rattle.laws.specs.Pick.{pick}
use Rattle.laws.proofs.Bools.{pick-left, pick-then}
use Rattle.laws.proofs.Cases.{true-not-false}
use Rattle.index.specs.Bins.{finest}
use Rattle.points.specs.Figures.{exponential, most_size, size_passes}
use Rattle.kinds.specs.Histograms as Kinds
use Rattle.exponential_slots.specs.Cells.{Cells, Room}
use Rattle.exponential_slots.proofs.Written as Written
use Rattle.exponential_slots.proofs.Recording as Laws
use Rattle.value_map.specs.Store.{lengths_suffice}
use Rattle.value_map.specs.Exponential.{cells_suffice, unset, exponential_store}
use Rattle.value_map.proofs.Owed.{Fit, Owed}
use Rattle.value_map.proofs.Products.{entry_in, counts_in_lem}

-- ---- max_size and the greatest level

module _ (size top : ℕ) where
  pub unset-low : size < 3 → 1 ≡ unset size top
  unfolding unset pick
  unset-low h = rw (lt-leb 3 size h)

  pub unset-high : 3 ≤ size → most_size < size → 1 ≡ unset size top
  unfolding unset pick
  unset-high a h = rw (le-leb 3 size a, lt-leb size most_size h)

  module _ (e : size_passes size ≡ true) where
    pub unset_2 : finest < top → 2 ≡ unset size top
    unfolding unset pick
    unset_2 h = rw (e, lt-leb top finest h)

    pub unset_0 : top ≤ finest → unset size top ≡ 0
    unfolding unset pick
    unset_0 h = rw (e, le-leb top finest h)

  pub unset-valid : unset size top ≡ 0 → Kinds.passes (exponential size top) ≡ true
  unfolding unset
  unset-valid e =
      let b = leb top finest in
      let p = pick-left (size_passes size) (pick b 0 2) 1 (omega arith) e in
      let q = pick-left b 0 2 (omega arith) (pick-then (size_passes size) (pick b 0 2) 1 (omega arith) e) in
      rw (p, q)

-- ---- number 12

-- each of limit + 2 slots lies in stores that suffice
room : (size limit : ℕ) (c : Cells) (x : ℕ) → cells_suffice size limit c ≡ true → x ≤ limit + 1 → Room size c x
room size limit c x e h =
    let counts : List ℕ = length c.pos ∷ length c.neg ∷ [] in
    let others : List ℕ = length c.figures ∷ length c.extremes ∷ [] in
    record {
      figures = entry_in size limit x counts others e h 0 (omega arith);
      extremes = entry_in size limit x counts others e h 1 (omega arith);
      pos = counts_in_lem size limit x counts others e h 0 (omega arith);
      neg = counts_in_lem size limit x counts others e h 1 (omega arith);
    }

-- ---- what is owed

fit : (size top : ℕ) (c : Cells) (x : ℕ) (v : Float) → Fit (exponential_store size top) c x v → Written.Fit size top x c v
fit size top c x v f =
    let r = f.room in
    record { valid = unset-valid size top f.set; figures = r.figures; extremes = r.extremes; pos = r.pos; neg = r.neg; value = f.value }

pub owed : (size top : ℕ) → Owed (exponential_store size top)
owed size top =
    record {
      valid = λ e w. unset-valid size top e;
      room = room size;
      unchanged = λ c x u v d. Laws.unchanged size top x u c v d;
      disagreeing = λ w c x u v f s. Laws.disagreeing size top x c v w.0 w.1 (fit size top c x v f) u s;
      full = λ w c x u v f s n. Laws.full size top x c v w.0 w.1 (fit size top c x v f) u s n;
      barred = λ w c x u v f s n b. true-not-false b;
      took = λ w c x u v f s n b.
          let t = Laws.took size top x c v w.0 w.1 (fit size top c x v f) u s n in
          record {
            no = t.no;
            own = t.own;
            others = t.others;
            lent = λ limit l. (λ j. lengths_suffice size limit (t.pos j ∷ t.neg j ∷ []) (t.figures j ∷ t.extremes j ∷ [])) ∙ l;
          };
    }
