-- The explicit kind over i64 pays what it owes the map, by the laws of `explicit_whole_slots`. Assumes nothing.
use Prim.Native.Nat.{ℕ, ◌+◌, ◌≤◌}
use mathlib.Core.Path.{◌≡◌, refl, ap, ◌∙◌}
use mathlib.Core.Bool.{Bool, true, false}
use mathlib.Core.List.{List, [], ◌∷◌}
use native.Mathlib.Omega.{arith}
use lib.Dec.{eqb}
use lib.ListN.{length}
use lib.Ieee.{Float}
use lib.IntN.{ℤ}
use Rattle.laws.specs.Pick.{pick}
use Rattle.laws.proofs.Bools.{pick-left}
use Rattle.kinds.specs.Wholes.{wholes}
use Rattle.floats.specs.Starts.{zero_float}
use Rattle.points.specs.Explicit.{bounds_pass, bucket_count}
use Rattle.explicit_whole_slots.specs.Cells.{Cells, Room}
use Rattle.explicit_whole_slots.proofs.Series as Laws
use Rattle.value_map.specs.Store.{Recording, lengths_suffice}
use Rattle.value_map.specs.Calls.{passes}
use Rattle.whole_map.specs.Explicit.{cells_suffice, explicit_wholes}
use Rattle.value_map.proofs.Owed.{Owed}
use Rattle.value_map.proofs.Products.{entry_in, counts_in_lem}

-- the bounds are all that configuring asks of the settings
either : (b : Bool) → b ≡ eqb (pick b 0 3) 0
unfolding pick
either true = refl
either false = refl

pub passes-is : (bounds : List Float) (sums : Bool) → bounds_pass bounds ≡ passes (explicit_wholes bounds sums)
passes-is bounds sums = either (bounds_pass bounds)

bounds-pass : (bounds : List Float) (sums : Bool) → (explicit_wholes bounds sums).unset ≡ 0 → bounds_pass bounds ≡ true
bounds-pass bounds sums e = pick-left (bounds_pass bounds) 0 3 (omega arith) e

-- each of limit + 2 slots lies in stores that suffice
room : (bounds : List Float) (limit : ℕ) (c : Cells) (x : ℕ) → cells_suffice bounds limit c ≡ true → x ≤ limit + 1 → Room bounds c x
room bounds limit c x e h =
    let counts : List ℕ = length c.counts ∷ [] in
    let others : List ℕ = length c.totals ∷ length c.extremes ∷ [] in
    record {
      totals = entry_in (bucket_count bounds) limit x counts others e h 0 (omega arith);
      extremes = entry_in (bucket_count bounds) limit x counts others e h 1 (omega arith);
      counts = counts_in_lem (bucket_count bounds) limit x counts others e h 0 (omega arith);
    }

pub owed : (bounds : List Float) (sums : Bool) → Owed (explicit_wholes bounds sums)
owed bounds sums =
    record {
      valid = λ e w. bounds-pass bounds sums e;
      room = room bounds;
      unchanged = λ c x u v d. Laws.refused-same bounds sums x u c v d;
      disagreeing = λ w c x u v f s. Laws.disagreeing bounds sums w zero_float c x f.room v f.value u s;
      full = λ w c x u v f s n. Laws.full bounds sums w zero_float c x f.room v f.value u s n;
      barred = λ w c x u v f s n b. Laws.barred bounds sums w zero_float c x f.room v f.value u s n b;
      took = λ w c x u v f s n b.
          let t = Laws.took bounds sums w zero_float c x f.room v f.value (bounds-pass bounds sums f.set) u s n b in
          let k = t.1.lengths in
          record {
            no = t.0;
            own = t.1.series;
            others = t.1.others;
            lent = λ limit l. (λ j. lengths_suffice (bucket_count bounds) limit (k.counts j ∷ []) (k.totals j ∷ k.extremes j ∷ [])) ∙ l;
          };
    }

-- and 8 is what its slots say under bounds that configuring does not accept
pub bad_8 : (bounds : List Float) (sums : Bool) (c : Cells) (x : ℕ) (u : Bool) (v : ℤ) → Room bounds c x → wholes.finite v ≡ true → bounds_pass bounds ≡ false
    → ((explicit_wholes bounds sums).recorded x u c v).no ≡ 8
bad_8 bounds sums c x u v r f b = ap (λ (o : Recording Cells). o.no) (Laws.bad-bounds bounds sums x u c v r f b)
