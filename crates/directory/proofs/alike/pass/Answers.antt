-- `directory::alike::pass` meets its contract. Assumes nothing.
use Rattle.std.proofs.Common.{◌≡◌, ℕ, ◌+◌, ◌-◌, ◌<◌, ◌≤◌, length, get_or, sym, refl, ap, ◌∙◌, arith}
use lib.ListN.{get_or-replicate}
use Rattle.laws.proofs.Cases.{true-not-false}
use Rattle.directory.specs.Inner.{row_at}
use Rattle.directory.proofs.Likes.{in-range, passed-more, alike_is}
use Rattle.directory.proofs.alike.pass.Goals as goal

pub loop-i-init : goal.loop-i-init
loop-i-init c =
    (omega arith, c.requires.0, refl, (λ k h. passed-more c.args.used c.args.sets.now c.args.order.now c.args.from c.args.bits c.differing-d.result 0 c.differing-d.ensures (λ j u. absurd (omega arith)) c.requires.4 c.requires.5 (λ u. absurd (omega arith)) k (omega arith)))

pub returns-then-not-named : goal.returns-then-not-named
returns-then-not-named c = λ e. true-not-false (sym e)

pub later-requires : goal.later-requires
later-requires c =
    let named : (1 ≤ get_or c.args.order.now c.loop-i.i 0) × (get_or c.args.order.now c.loop-i.i 0 ≤ c.args.used) = in-range c.args.used _ c.named.result c.named.ensures c.if-not-named.false in
    let in-q : get_or c.args.order.now c.loop-i.i 0 < length c.args.sets.now = omega (arith, c.requires.1, (named).1) in
    let p = c.loop-i.invariant.3 (c.loop-i.i - 1) (omega (arith, c.loop-i.invariant.0)) in
    (c.loop-i.invariant.0, omega (arith, c.loop-i-test.true, c.requires.2), omega (arith, p.1, c.requires.1), in-q, c.requires.3, c.loop-i.invariant.2, refl)

pub returns-then-not-later : goal.returns-then-not-later
returns-then-not-later c = λ e. true-not-false (sym e)

pub loop-i-preserved : goal.loop-i-preserved
loop-i-preserved c =
    let named : (1 ≤ get_or c.args.order.now c.loop-i.i 0) × (get_or c.args.order.now c.loop-i.i 0 ≤ c.args.used) = in-range c.args.used _ c.named.result c.named.ensures c.if-not-named.false in
    let n : c.loop-i.i ≡ c.loop-i.i + 1 - 1 = omega arith in
    (omega (arith, c.loop-i.invariant.0), omega (arith, c.loop-i-test.true), ap (λ (k : ℕ). get_or (row_at c.args.sets.now c.args.order.now k) c.args.from 0) n, passed-more c.args.used c.args.sets.now c.args.order.now c.args.from c.loop-i.d c.differing-e.result c.loop-i.i c.differing-e.ensures c.loop-i.invariant.3 (named).0 (named).1 (λ u. c.later.ensures c.if-not-later.false))

pub returns-then-not-same_keys : goal.returns-then-not-same_keys
returns-then-not-same_keys c = λ e. true-not-false (sym e)

pub returns-then-not-sound : goal.returns-then-not-sound
returns-then-not-sound c = λ e. true-not-false (sym e)

pub parting-requires : goal.parting-requires
parting-requires c = omega arith

pub returns-then-parting-from : goal.returns-then-parting-from
returns-then-parting-from c = λ e. true-not-false (sym e)

pub returns : goal.returns
returns c =
    λ z. alike_is c.args.used c.args.sets.now c.args.order.now c.args.from c.loop-i.d
    (λ x h. c.loop-i.invariant.3 x (omega (arith, h, c.loop-i-test.false)))
    (c.same_keys.ensures c.if-not-same_keys.false) (sym c.sound.ensures ∙ c.if-not-sound.false) c.requires.3
    (λ j u. c.parting.ensures.alike j (omega arith) (omega (arith, c.if-parting-from.false, u)) ∙ get_or-replicate 9 j 0 0 (omega (arith, c.requires.3, u)))
