-- `lines::attributes::word_at` meets its contract. Assumes nothing.
use Prim.Native.Nat.{ℕ, ◌^◌}
use mathlib.Core.Path.{refl, sym, ap, ◌∙◌}
use native.Mathlib.Omega.{arith}
use lib.ListN.{length, drop}
use borrow.Author.Tests.{lt-ltb, le-ltb, ltb-true, ltb-false}
use Rattle.std.specs.Prelude.{Some}
use Rattle.laws.proofs.Bools.{pick_true, pick-false}
use Rattle.text.specs.Fields.{until}
use Rattle.text.specs.Numbers.{ill_led}
use Rattle.lines.proofs.Scanning.{goes_none, stops-there, led-none, word-is}
use Rattle.lines.proofs.attributes.word_at.Goals as goal

pub returns-then-goes_on : goal.returns-then-goes_on
returns-then-goes_on c =
    let a = c.args in
    let bs = a.bytes.now in
    let h = ltb-true 0 (length (until a.mark (drop c.digits-x.result.to bs))) (sym c.goes_on.ensures ∙ c.if-goes_on.true) in
    (sym (goes_none bs a.from a.mark c.digits-x.result.x c.digits-x.result.to c.requires.1 c.digits-x.ensures h), refl)

pub slice_bounds-ill_led-start : goal.slice_bounds-ill_led-start
slice_bounds-ill_led-start c = omega (arith, c.digits-x.ensures.low)

pub slice_bounds-ill_led-end : goal.slice_bounds-ill_led-end
slice_bounds-ill_led-end c = omega (arith, c.digits-x.ensures.high)

pub returns-then-ill_led : goal.returns-then-ill_led
returns-then-ill_led c =
    let a = c.args in
    let bs = a.bytes.now in
    let u = until a.mark (drop a.from bs) in
    let z = ltb-false 0 (length (until a.mark (drop c.digits-x.result.to bs))) (sym c.goes_on.ensures ∙ c.if-goes_on.false) in
    let s = stops-there bs a.from a.mark c.digits-x.result.x c.digits-x.result.to c.requires.1 c.digits-x.ensures (omega arith) in
    (sym (led-none u (ap ill_led (sym s.2) ∙ sym c.ill_led.ensures ∙ c.if-ill_led.true)), refl)

pub returns-in-Ok : goal.returns-in-Ok
returns-in-Ok c =
    let a = c.args in
    let bs = a.bytes.now in
    let u = until a.mark (drop a.from bs) in
    let z = ltb-false 0 (length (until a.mark (drop c.digits-x.result.to bs))) (sym c.goes_on.ensures ∙ c.if-goes_on.false) in
    let s = stops-there bs a.from a.mark c.digits-x.result.x c.digits-x.result.to c.requires.1 c.digits-x.ensures (omega arith) in
    let g = c.in-Ok.ensures in
    let w = word-is u (Some c.digits-x.result.x) (ap ill_led (sym s.2) ∙ sym c.ill_led.ensures ∙ c.if-ill_led.false) s.1 ∙ pick_true _ _ _ (lt-ltb c.digits-x.result.x (2 ^ 32) g.0) in
    (ap (λ (n : ℕ). Some n) g.1 ∙ sym w, s.0)

pub returns-in-Err : goal.returns-in-Err
returns-in-Err c =
    let a = c.args in
    let bs = a.bytes.now in
    let u = until a.mark (drop a.from bs) in
    let z = ltb-false 0 (length (until a.mark (drop c.digits-x.result.to bs))) (sym c.goes_on.ensures ∙ c.if-goes_on.false) in
    let s = stops-there bs a.from a.mark c.digits-x.result.x c.digits-x.result.to c.requires.1 c.digits-x.ensures (omega arith) in
    let g = c.in-Err.ensures in
    (sym (word-is u (Some c.digits-x.result.x) (ap ill_led (sym s.2) ∙ sym c.ill_led.ensures ∙ c.if-ill_led.false) s.1 ∙ pick-false _ _ _ (le-ltb c.digits-x.result.x (2 ^ 32) (omega (arith, g)))), refl)
