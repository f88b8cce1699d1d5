-- The exponential kind over i64 pays what it owes the map, by the laws of `exponential_whole_slots`: so the map's calls over it do the steps of
-- tally's map (value_map/proofs/Steps.antt, Kept.antt). Assumes nothing.
use Prim.Native.Nat.{ℕ, ◌+◌, ◌≤◌}
use mathlib.Core.Path.{◌≡◌, ◌∙◌}
use mathlib.Core.Bool.{Bool, true}
use mathlib.Core.List.{List, [], ◌∷◌}
use native.Mathlib.Omega.{arith}
use lib.IntN.{ℤ}
use lib.ListN.{length}
use Rattle.exponential_whole_slots.specs.Cells.{Cells, Room}
use Rattle.exponential_whole_slots.proofs.Recording as Laws
use Rattle.value_map.specs.Store.{lengths_suffice}
use Rattle.value_map.proofs.Owed.{Fit, Owed}
use Rattle.value_map.proofs.Products.{entry_in, counts_in_lem}
use Rattle.value_map.proofs.ExponentialOwes.{unset-valid}
use Rattle.whole_map.specs.Exponential.{cells_suffice, exponential_wholes}

-- each of limit + 2 slots lies in stores that suffice
room : (size limit : ℕ) (c : Cells) (x : ℕ) → cells_suffice size limit c ≡ true → x ≤ limit + 1 → Room size c x
room size limit c x e h =
    let counts : List ℕ = length c.pos ∷ length c.neg ∷ [] in
    let others : List ℕ = length c.figures ∷ length c.extremes ∷ [] in
    record {
      figures = entry_in size limit x counts others e h 0 (omega arith);
      extremes = entry_in size limit x counts others e h 1 (omega arith);
      pos = counts_in_lem size limit x counts others e h 0 (omega arith);
      neg = counts_in_lem size limit x counts others e h 1 (omega arith);
    }

fit : (size top : ℕ) (sums : Bool) (c : Cells) (x : ℕ) (v : ℤ) → Fit (exponential_wholes size top sums) c x v → Laws.Fit size top x c v
fit size top sums c x v f =
    let r = f.room in
    record { valid = unset-valid size top f.set; figures = r.figures; extremes = r.extremes; pos = r.pos; neg = r.neg; value = f.value }

pub owed : (size top : ℕ) (sums : Bool) → Owed (exponential_wholes size top sums)
owed size top sums =
    record {
      valid = λ e w. unset-valid size top e;
      room = room size;
      unchanged = λ c x u v d. Laws.unchanged size top sums x u c v d;
      disagreeing = λ w c x u v f s. Laws.disagreeing size top sums x c v w (fit size top sums c x v f) u s;
      full = λ w c x u v f s n. Laws.full size top sums x c v w (fit size top sums c x v f) u s n;
      barred = λ w c x u v f s n b. Laws.barred size top sums x c v w (fit size top sums c x v f) u s n b;
      took = λ w c x u v f s n b.
          let t = Laws.took size top sums x c v w (fit size top sums c x v f) u s n b in
          record {
            no = t.no;
            own = t.own;
            others = t.others;
            lent = λ limit l. (λ j. lengths_suffice size limit (t.pos j ∷ t.neg j ∷ []) (t.figures j ∷ t.extremes j ∷ [])) ∙ l;
          };
    }
