-- `lines::attributes::run` meets its contract: the digits up to here say x. Assumes nothing.
use Prim.Native.Nat.{ℕ, ◌+◌, ◌-◌, ◌*◌, ◌^◌, ◌<◌}
use mathlib.Core.Path.{◌≡◌, sym, subst}
use mathlib.Core.Logic.{inl, inr}
use native.Mathlib.Omega.{arith}
use lib.Dec.{lit<}
use Rattle.lines.specs.Scanned.{Says}
use Rattle.text.proofs.Pairing.{digit_low, digit-high}
use Rattle.lines.proofs.Scanning.{says_none, says-more, run_fits}
use Rattle.lines.proofs.attributes.run.Goals as goal

pub loop-i-init : goal.loop-i-init
loop-i-init c =
    let z : c.args.from - c.args.from ≡ 0 = omega arith in
    (subst (λ (n : ℕ). 0 < 10 ^ n) (sym z) (lit< tt), says_none c.args.bytes.now c.args.from)

pub returns-in_default : goal.returns-in_default
returns-in_default c =
    let l = c.loop-i in
    record {
      low = omega arith;
      high = omega arith;
      says = l.invariant.1;
      stop = inl (digit-high _ (sym c.in_default.ensures));
    }

pub overflow_add-x : goal.overflow_add-x
overflow_add-x c =
    let l = c.loop-i in
    let d = digit_low _ c.in-Some.d (sym c.in-Some.ensures) in
    omega (arith, (run_fits l.x (l.i - c.args.from) c.in-Some.d (omega arith) l.invariant.0 d.0).1)

pub loop-i-preserved : goal.loop-i-preserved
loop-i-preserved c =
    let l = c.loop-i in
    let a = c.args in
    let d = digit_low _ c.in-Some.d (sym c.in-Some.ensures) in
    let e : l.i - a.from + 1 ≡ l.i + 1 - a.from = omega arith in
    let f = run_fits l.x (l.i - a.from) c.in-Some.d (omega arith) l.invariant.0 d.0 in
    (subst (λ (n : ℕ). l.x * 10 + c.in-Some.d < 10 ^ n) e f.0, says-more a.bytes.now a.from l.x l.i c.in-Some.d (omega arith) d.1 d.0 f.1 l.invariant.1)

pub returns : goal.returns
returns c =
    let l = c.loop-i in
    record {
      low = omega arith;
      high = omega arith;
      says = subst (λ (n : ℕ). Says c.args.bytes.now c.args.from l.x n) (omega arith) l.invariant.1;
      stop = inr (omega arith);
    }
