-- `text::fields::start` meets its contract: where the field behind k spaces starts, counted from here on. Assumes nothing.
use Rattle.std.proofs.Common.{ℕ, suc, ◌+◌, ◌-◌, ◌<◌, drop, sym, ap, ◌∙◌, arith}
use Rattle.text.specs.Fields.{start_of}
use Rattle.text.proofs.Splitting.{start-here, start_none, start-turn}
use Rattle.text.proofs.fields.start.Goals as goal

pub returns-then-left-eq0 : goal.returns-then-left-eq0
returns-then-left-eq0 c =
    let l = c.loop-i in
    (omega arith, omega (arith, l.invariant, ap (start_of (drop l.i c.args.line.now)) c.if-left-eq0.true ∙ start-here (drop l.i c.args.line.now)))

pub overflow_sub-left : goal.overflow_sub-left
overflow_sub-left c = omega (arith, c.is_space-left.ensures.upper_bound, c.if-left-eq0.false)

pub loop-i-preserved : goal.loop-i-preserved
loop-i-preserved c =
    let l = c.loop-i in
    let p : 0 < l.left = omega (arith, c.if-left-eq0.false) in
    omega (
      arith,
      l.invariant,
      start-turn c.args.line.now l.i l.left (omega arith) p ∙ ap (λ (k : ℕ). suc (start_of (drop (l.i + 1) c.args.line.now) (l.left - k))) (sym c.is_space-left.ensures.value),
    )

pub returns : goal.returns
returns c =
    let l = c.loop-i in
    (omega arith, omega (arith, l.invariant, start_none c.args.line.now l.i l.left (omega arith)))
