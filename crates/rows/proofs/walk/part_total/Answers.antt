use mathlib.Core.Path.{◌≡◌, sym, ap, ◌∙◌}
use Prim.Native.Nat.{ℕ, ◌+◌, ◌-◌}
use native.Mathlib.Nat.{add-zero}
use native.Mathlib.Omega.{arith}
use borrow.Author.Rules.{rules}
use lib.ListN.{length, take, drop}
use Rattle.laws.specs.Counting.{total}
use Rattle.rows.specs.Parts.{part}
use Rattle.rows.proofs.Groups.{part_none, part-next}
use Rattle.rows.proofs.walk.part_total.Goals as goal

pub loop-x-init : goal.loop-x-init
loop-x-init c = sym (rw add-zero (part_none c.args.counts.now c.args.i))

pub overflow_add-sum : goal.overflow_add-sum
overflow_add-sum c =
    let a = c.args in
    let l = c.loop-x in
    let n : length (take (a.e - a.i) (drop a.i a.counts.now)) ≡ a.e - a.i = search rules in
    record { fits = (part-next a.counts.now a.i l.x-index a.e l.sum (omega (arith, n, c.loop-x-test.true, c.requires.0)) c.requires.1 c.requires.2 l.invariant).0 }

pub loop-x-preserved : goal.loop-x-preserved
loop-x-preserved c =
    let a = c.args in
    let l = c.loop-x in
    let n : length (take (a.e - a.i) (drop a.i a.counts.now)) ≡ a.e - a.i = search rules in
    (part-next a.counts.now a.i l.x-index a.e l.sum (omega (arith, n, c.loop-x-test.true, c.requires.0)) c.requires.1 c.requires.2 l.invariant).1

pub returns : goal.returns
returns c =
    let a = c.args in
    let l = c.loop-x in
    let n : length (take (a.e - a.i) (drop a.i a.counts.now)) ≡ a.e - a.i = search rules in
    let e : a.i + l.x-index ≡ a.e = omega (arith, n, c.loop-x-test.false, l.auto.x-index-end, c.requires.0) in
    l.invariant ∙ ap (λ (j : ℕ). total (part a.counts.now a.i j)) e
