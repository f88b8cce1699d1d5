use mathlib.Core.Path.{◌≡◌, ap, ◌∙◌}
use Prim.Native.Nat.{ℕ, ◌^◌}
use native.Mathlib.Omega.{arith}
use Rattle.rows.proofs.Groups.{fours-wide}
use Rattle.rows.proofs.walk.whole_groups.Goals as goal

pub pairs-requires : goal.pairs-requires
pairs-requires c =
    let two-wide : c.args.width ≡ 2 = c.requires.delta_nonzero.1 ∙ ap (λ (d : ℕ). 2 ^ d) c.if-delta-eq1.true in
    rw (two-wide) at c.requires.gatherable

pub returns-then-delta-eq1 : goal.returns-then-delta-eq1
returns-then-delta-eq1 c =
    let two-wide : c.args.width ≡ 2 = c.requires.delta_nonzero.1 ∙ ap (λ (d : ℕ). 2 ^ d) c.if-delta-eq1.true in
    rw (two-wide) c.pairs.ensures

pub wide_groups-requires : goal.wide_groups-requires
wide_groups-requires c = record { width_nonzero = fours-wide c.args.width c.args.delta (omega arith) c.requires.delta_nonzero.1; gatherable = c.requires.gatherable }
