-- `lines::attributes::several` meets its contract. Assumes nothing.
use Prim.Native.Nat.{◌-◌, ◌≤◌}
use mathlib.Core.Path.{◌≡◌}
use lib.ListN.{length}
use Rattle.lines.specs.Spelled.{told, kept}
use Rattle.lines.proofs.Parting.{from}
use Rattle.lines.proofs.attributes.several.Given as goal

abbrev pub invariant-loop-i : goal.invariant-loop-i
invariant-loop-i l =
    (l.i ≤ length l.bytes) × (told l.n (from l.bytes l.i) ≡ told 0 (from l.bytes 0)) × (kept l.n (from l.bytes l.i) l.attrs ≡ kept 0 (from l.bytes 0) l.initial.attrs)

abbrev pub decreases-loop-i : goal.decreases-loop-i
decreases-loop-i l = length l.bytes - l.i
