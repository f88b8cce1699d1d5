-- `lines::input::in_eight` meets its contract. Assumes nothing.
use native.Mathlib.Omega.{arith}
use Prim.Native.Nat.{ℕ, ◌+◌}
use mathlib.Core.Path.{◌≡◌, sym, ap, refl, ◌∙◌}
use mathlib.Core.Bool.{Bool, true, false, ◌||◌}
use lib.Dec.{eqb}
use lib.ListN.{get_or}
use Rattle.laws.specs.Pick.{pick}
use Rattle.lines.specs.Reading.{newline_in}
use Rattle.lines.proofs.Newlines.{in-none, in-turn, part-length, part-at}
use Rattle.lines.proofs.input.in_eight.Goals as goal

or-pick : (a b : Bool) → a || b ≡ pick b true a
unfolding pick
or-pick true true = refl
or-pick true false = refl
or-pick false true = refl
or-pick false false = refl

pub loop-byte-init : goal.loop-byte-init
loop-byte-init c = in-none _ _

pub loop-byte-preserved : goal.loop-byte-preserved
loop-byte-preserved c =
    let l = c.loop-byte in
    let a = c.args in
    let i = l.byte-index in
    let n = part-length a.block.now a.from 8 (omega arith) in
    or-pick l.found _
    ∙ ap (λ (b : ℕ). pick (eqb b 10) true l.found) (part-at a.block.now a.from 8 i (omega (arith, n)))
    ∙ ap (pick (eqb (get_or a.block.now (a.from + i) 0) 10) true) l.invariant
    ∙ sym (in-turn a.block.now a.from i)

pub returns : goal.returns
returns c =
    let l = c.loop-byte in
    let a = c.args in
    let n = part-length a.block.now a.from 8 (omega arith) in
    let e : l.byte-index ≡ 8 = omega (arith, n) in
    l.invariant ∙ ap (newline_in a.block.now a.from) e
