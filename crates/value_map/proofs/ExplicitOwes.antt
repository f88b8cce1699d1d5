-- The explicit kind pays what it owes, by the laws of `explicit_slots`. Assumes nothing.
use Prim.Native.Nat.{ℕ, ◌+◌, ◌≤◌}
use mathlib.Core.Path.{◌≡◌, refl, ap, ◌∙◌}
use mathlib.Core.Bool.{Bool, true, false}
use mathlib.Core.List.{List, [], ◌∷◌}
use native.Mathlib.Omega.{arith}
use lib.Dec.{eqb}
use lib.ListN.{length}
use lib.Ieee.{Float}
use lib.Ieee.Scale.{finite}
use Rattle.laws.specs.Pick.{pick}
use Rattle.laws.proofs.Bools.{pick-left}
use Rattle.laws.proofs.Cases.{true-not-false}
use Rattle.floats.specs.Starts.{zero_float}
use Rattle.points.specs.Explicit.{bounds_pass, bucket_count}
use Rattle.explicit_slots.specs.Cells.{Cells, Room}
use Rattle.explicit_slots.proofs.Series as Laws
use Rattle.value_map.specs.Store.{Recording, lengths_suffice}
use Rattle.value_map.specs.Calls.{passes}
use Rattle.value_map.specs.Explicit.{cells_suffice, explicit_store}
use Rattle.value_map.proofs.Owed.{Owed}
use Rattle.value_map.proofs.Products.{entry_in, counts_in_lem}
use Rattle.value_map.proofs.Values.{finite-is}

-- the bounds are all that configuring asks of the settings
either : (b : Bool) → b ≡ eqb (pick b 0 3) 0
unfolding pick
either true = refl
either false = refl

pub passes-is : (bounds : List Float) → bounds_pass bounds ≡ passes (explicit_store bounds)
passes-is bounds = either (bounds_pass bounds)

bounds-pass : (bounds : List Float) → (explicit_store bounds).unset ≡ 0 → bounds_pass bounds ≡ true
bounds-pass bounds e = pick-left (bounds_pass bounds) 0 3 (omega arith) e

-- each of limit + 2 slots lies in stores that suffice
room : (bounds : List Float) (limit : ℕ) (c : Cells) (x : ℕ) → cells_suffice bounds limit c ≡ true → x ≤ limit + 1 → Room bounds c x
room bounds limit c x e h =
    let counts : List ℕ = length c.counts ∷ [] in
    let others : List ℕ = length c.totals ∷ length c.extremes ∷ [] in
    record {
      totals = entry_in (bucket_count bounds) limit x counts others e h 0 (omega arith);
      extremes = entry_in (bucket_count bounds) limit x counts others e h 1 (omega arith);
      counts = counts_in_lem (bucket_count bounds) limit x counts others e h 0 (omega arith);
    }

pub owed : (bounds : List Float) → Owed (explicit_store bounds)
owed bounds =
    record {
      valid = λ e w. bounds-pass bounds e;
      room = room bounds;
      unchanged = λ c x u v d. Laws.refused-same bounds x u c v d;
      disagreeing = λ w c x u v f s. Laws.disagreeing bounds w.0 w.1 zero_float c x f.room v (finite-is v f.value) u s;
      full = λ w c x u v f s n. Laws.full bounds w.0 w.1 zero_float c x f.room v (finite-is v f.value) u s n;
      barred = λ w c x u v f s n b. true-not-false b;
      took = λ w c x u v f s n b.
          let t = Laws.took bounds w.0 w.1 zero_float c x f.room v (finite-is v f.value) (bounds-pass bounds f.set) u s n in
          let k = t.1.lengths in
          record {
            no = t.0;
            own = t.1.series;
            others = t.1.others;
            lent = λ limit l. (λ j. lengths_suffice (bucket_count bounds) limit (k.counts j ∷ []) (k.totals j ∷ k.extremes j ∷ [])) ∙ l;
          };
    }

-- and 8 is what its slots say under bounds that configuring does not accept
pub bad_8 : (bounds : List Float) (c : Cells) (x : ℕ) (u : Bool) (v : Float) → Room bounds c x → finite v ≡ true → bounds_pass bounds ≡ false
    → ((explicit_store bounds).recorded x u c v).no ≡ 8
bad_8 bounds c x u v r f b = ap (λ (o : Recording Cells). o.no) (Laws.bad-bounds bounds x u c v r f b)
