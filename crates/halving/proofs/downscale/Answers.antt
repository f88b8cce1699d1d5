use mathlib.Core.Path.{◌≡◌}
use native.Mathlib.Omega.{arith}
use Rattle.halving.proofs.Halves.{fresh, once_more, all_done}
use Rattle.halving.proofs.downscale.Goals as goal

pub loop-init : goal.loop-init
loop-init c =
    let a = c.args in
    fresh a.counts.now a.start a.n a.delta

pub halve-len-requires : goal.halve-len-requires
halve-len-requires c =
    let k = c.loop.invariant in
    (omega (arith, k.few, k.kept, c.requires.0), omega (arith, k.sums, c.requires.1))

pub loop-preserved : goal.loop-preserved
loop-preserved c =
    let a = c.args in
    let l = c.loop in
    once_more a.counts.now l.counts c.halve-len.new.counts a.start a.n a.delta l.counter l.s l.len c.halve-len.result c.requires.0 (omega arith) l.invariant
    (c.halve-len.ensures.value, c.halve-len.ensures.counts_after)

pub returns : goal.returns
returns c =
    let l = c.loop in
    let e : l.counter ≡ c.args.delta = omega arith in
    let all = all_done c.args.counts.now l.counts c.args.start c.args.n c.args.delta l.s l.len c.requires.0 (rw e at l.invariant) in
    record { start_value = all.0; len_value = all.1.0; counts_after = all.1.1.0; counts_after_2 = all.1.1.1 }
