-- `lines::output::decimal_digits` meets its contract. Assumes nothing.
use Rattle.std.proofs.Common.{◌≡◌, ℕ, suc, ◌+◌, ◌-◌, ◌/◌, ◌%◌, ◌^◌, ◌<◌, ◌++◌, drop, length, set, ◌∙◌, sym, subst, arith}
use Rattle.lines.specs.Written.{digits_within, decimal}
use Rattle.lines.proofs.Digits.{more_room, tenth-fits, begun, digit-turn, digit-first}
use Rattle.lines.proofs.output.decimal_digits.Goals as goal

pub loop-rest-init : goal.loop-rest-init
loop-rest-init c = (omega arith, omega arith, begun c.args.digits.now c.args.x (omega arith))

pub loop-rest-preserved : goal.loop-rest-preserved
loop-rest-preserved c =
    let l = c.loop-rest in
    let h : l.i < length l.digits = omega arith in
    let e : suc (l.i - 1) ≡ l.i = omega (arith, more_room l.i l.rest l.invariant.1 c.loop-rest-test.true) in (
      omega arith,
      subst (λ (n : ℕ). l.rest / 10 < 10 ^ n) (sym e) (tenth-fits l.i l.rest l.invariant.1),
      subst (λ (n : ℕ). digits_within n (l.rest / 10) ++ drop n (set l.digits l.i (48 + l.rest % 10)) ≡ decimal c.args.x) (sym e)
          (digit-turn l.digits l.i l.rest h c.loop-rest-test.true ∙ l.invariant.2),
    )

pub returns-clause-value : goal.returns-clause-value
returns-clause-value c =
    let l = c.loop-rest in
    digit-first l.digits l.i l.rest (omega arith) c.loop-rest-test.false ∙ l.invariant.2
