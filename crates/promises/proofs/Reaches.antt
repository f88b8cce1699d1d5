-- Every call of demand 3 is asked by some input of a run. Assumes nothing.
use Prim.Native.Nat.{ℕ, min}
use mathlib.Core.Path.{◌≡◌, refl, ◌∙◌}
use mathlib.Core.List.{List}
use native.Mathlib.Omega.{arith}
use lib.ListN.{length, replicate, length-replicate}
use Rattle.tally.specs.Kind.{Room}
use Rattle.tally.specs.Map.{measure, measure_by, bind, release, collect}
use Rattle.listing.specs.Listed.{Output}
use Rattle.collecting.specs.Collected.{room_of}
use Rattle.promises.specs.Runs.{recording, recording_by, binding, releasing, collecting}
use Rattle.promises.specs.Promises.{Reaches}

-- lent output of so many places
abbrev output_of : Room → Output
output_of r =
    record {
      sets = replicate r.points (replicate 9 0);
      words = replicate r.points (replicate 12 0);
      pos = replicate r.pos 0;
      neg = replicate r.neg 0;
    }

min-same : (n : ℕ) → min n n ≡ n
min-same n = omega arith

room_back : (r : Room) → room_of (output_of r) ≡ r
room_back r =
    let row : List ℕ = replicate {A = ℕ} 9 0 in
    let words : List ℕ = replicate {A = ℕ} 12 0 in
    let p : min (length (replicate r.points row)) (length (replicate r.points words)) ≡ r.points =
    (λ i. min (length-replicate r.points row i) (length-replicate r.points words i)) ∙ min-same r.points in
    λ i. record { points = p i; pos = length-replicate {A = ℕ} r.pos 0 i; neg = length-replicate {A = ℕ} r.neg 0 i }

pub reaches : Reaches
reaches K (measure v attrs) r = (recording v attrs r, refl)
reaches K (measure_by h v) r = (recording_by h v, refl)
reaches K (bind attrs) r = (binding attrs r, refl)
reaches K (release h) r = (releasing h, refl)
reaches K (collect room) r = (collecting (output_of room), λ i. collect (room_back room i))
