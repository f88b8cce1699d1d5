use mathlib.Core.Path.{◌≡◌, refl, sym}
use mathlib.Core.Bool.{Bool, true, false, not, beq}
use Rattle.point.proofs.same_switch.Goals as goal

pub returns-then-a : goal.returns-then-a
returns-then-a c = go c.args.a c.args.b c.if-a.true
  where
    go : (a b : Bool) → a ≡ true → b ≡ beq a b
    go true true e = refl
    go true false e = refl
    go false true e = sym e
    go false false e = e

pub returns : goal.returns
returns c = go c.args.a c.args.b c.if-a.false
  where
    go : (a b : Bool) → a ≡ false → not b ≡ beq a b
    go true true e = sym e
    go true false e = e
    go false true e = refl
    go false false e = refl
