use mathlib.Core.Path.{◌≡◌}
use native.Mathlib.Omega.{arith}
use Rattle.merges.specs.Merges.{rows_low}
use Rattle.merges.proofs.Merging.{plan_law, plan-made}
use Rattle.merges.proofs.plan_of.Goals as goal

pub overflow_sub-la : goal.overflow_sub-la
overflow_sub-la c = omega (arith, c.min-l.ensures)

pub overflow_sub-lb : goal.overflow_sub-lb
overflow_sub-lb c = omega (arith, c.min-l.ensures)

pub span-p-requires : goal.span-p-requires
span-p-requires c = record { size_nonzero = c.requires.size_nonzero.0; len_bound = c.requires.len_bound; j_bound = (omega (arith, c.requires.size_nonzero.1), omega (arith, c.requires.size_nonzero.2)) }

pub overflow_sub-la-2 : goal.overflow_sub-la-2
overflow_sub-la-2 c = omega (arith, c.min-l.ensures)

pub overflow_sub-lb-2 : goal.overflow_sub-lb-2
overflow_sub-lb-2 c = omega (arith, c.min-l.ensures)

pub span-n-requires : goal.span-n-requires
span-n-requires c = record { size_nonzero = c.requires.size_nonzero.0; len_bound = c.requires.len_bound_2; j_bound = (omega (arith, c.requires.size_nonzero.1), omega (arith, c.requires.size_nonzero.2)) }

pub overflow_sub-level : goal.overflow_sub-level
overflow_sub-level c =
    let low : c.max-low.result ≡ rows_low c.args.size c.args.a c.args.b =
    let a = c.args in
    plan_law a.size a.a a.b c.min-l.result c.span-p.result c.span-n.result c.max-low.result c.min-l.ensures c.span-p.ensures c.span-n.ensures c.max-low.ensures in
    omega (arith, low, c.requires.b_bound, c.min-l.ensures)

pub overflow_sub-result : goal.overflow_sub-result
overflow_sub-result c = omega (arith, c.min-l.ensures)

pub overflow_sub-result-2 : goal.overflow_sub-result-2
overflow_sub-result-2 c = omega (arith, c.min-l.ensures)

pub returns : goal.returns
returns c =
    let low : c.max-low.result ≡ rows_low c.args.size c.args.a c.args.b =
    let a = c.args in
    plan_law a.size a.a a.b c.min-l.result c.span-p.result c.span-n.result c.max-low.result c.min-l.ensures c.span-p.ensures c.span-n.ensures c.max-low.ensures in
    let a = c.args in
    plan-made a.size a.a a.b c.min-l.result c.max-low.result c.min-l.ensures (low)
