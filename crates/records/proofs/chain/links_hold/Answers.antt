-- `records::chain::links_hold` meets its contract. Assumes nothing.
use mathlib.Core.Path.{◌≡◌, sym, subst}
use mathlib.Core.Bool.{true}
use Prim.Native.Nat.{ℕ, ◌*◌}
use native.Mathlib.Omega.{arith}
use Rattle.sets.specs.All.{allb}
use Rattle.sets.proofs.Alls.{allb-none, allb-more, allb-no}
use Rattle.records.specs.Inner.{link_holds, link_of}
use Rattle.records.specs.Words.{word_at}
use borrow.Author.Tests.{eq-eqb, ne_eqb}
use Rattle.records.proofs.chain.links_hold.Goals as goal

pub loop-r-init : goal.loop-r-init
loop-r-init c = allb-none _

pub overflow_mul-r : goal.overflow_mul-r
overflow_mul-r c = omega (arith, c.requires.few, c.loop-r-test.true)

pub word_at-requires : goal.word_at-requires
word_at-requires c = omega (arith, c.requires.long, c.loop-r-test.true)

pub link_of-requires : goal.link_of-requires
link_of-requires c =
    (c.requires.small, omega (arith, c.requires.few, c.loop-r-test.true))

pub returns-then-word_at-link_of : goal.returns-then-word_at-link_of
returns-then-word_at-link_of c =
    sym (allb-no (link_holds c.args.info c.args.n c.args.s.now) c.args.n c.loop-r.r c.loop-r-test.true
    (ne_eqb (word_at c.args.s.now (c.loop-r.r * 32)) (link_of c.args.info c.args.n c.loop-r.r) (λ e. omega (arith, c.word_at.ensures, c.link_of.ensures, c.if-word_at-link_of.true))))

pub loop-r-preserved : goal.loop-r-preserved
loop-r-preserved c =
    let z : word_at c.args.s.now (c.loop-r.r * 32) ≡ link_of c.args.info c.args.n c.loop-r.r = omega (arith, c.word_at.ensures, c.link_of.ensures, c.if-word_at-link_of.false) in
    allb-more (link_holds c.args.info c.args.n c.args.s.now) c.loop-r.r c.loop-r.invariant (eq-eqb _ _ z)

pub returns : goal.returns
returns c =
    let e : c.loop-r.r ≡ c.args.n = omega arith in
    sym (subst (λ (j : ℕ). allb j (link_holds c.args.info c.args.n c.args.s.now) ≡ true) e c.loop-r.invariant)
