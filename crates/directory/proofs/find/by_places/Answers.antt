-- `directory::find::by_places` meets its contract. Assumes nothing.
use Rattle.std.specs.Prelude.{Ok}
use Rattle.std.proofs.Common.{◌≡◌, ℕ, ◌<◌, ◌≤◌, Bool, false, true, ◌&&◌, eqb, ltb, [], get_or, take, sym, ap, ◌∙◌, arith, get_or-take}
use lib.Seq.{length-take-le}
use Rattle.sets.specs.Rows.{span}
use Rattle.directory.proofs.Finds.{scan-first, scan-skip, scan-over, scan-here, scan-on}
use Rattle.directory.proofs.find.by_places.Goals as goal

pub returns-then-names : goal.returns-then-names
returns-then-names c =
    sym (scan-first c.args.h c.args.entries.now (span c.args.order.now 0 c.args.used) (sym c.names.ensures ∙ c.if-names.true))

pub loop-q-init : goal.loop-q-init
loop-q-init c =
    scan-skip c.args.h c.args.entries.now c.args.order.now c.args.used (sym c.names.ensures ∙ c.if-names.false)

pub returns-then-names-2 : goal.returns-then-names-2
returns-then-names-2 c =
    let i : ℕ = c.loop-q.q-index in
    let in-used : i < c.args.used = omega (arith, c.loop-q-test.true, length-take-le c.args.used c.args.order.now c.requires.1) in
    let place : get_or (take c.args.used c.args.order.now) i 0 ≡ get_or c.args.order.now i 0 = get_or-take c.args.used c.args.order.now i 0 in-used in
    let named : ℕ → Bool = λ q. eqb (get_or (get_or c.args.entries.now q []) 0 0) c.args.h && ltb 0 (get_or (get_or c.args.entries.now q []) 1 0) in
    let told : named (get_or c.args.order.now i 0) ≡ true = sym (ap named place) ∙ sym c.names-in-loop-q.ensures ∙ c.if-names-2.true in
    ap (λ (q : ℕ). Ok q) place ∙ sym (c.loop-q.invariant ∙ scan-here c.args.h c.args.entries.now c.args.order.now c.args.used i in-used (c.requires.2 i in-used).0 told)

pub loop-q-preserved : goal.loop-q-preserved
loop-q-preserved c =
    let i : ℕ = c.loop-q.q-index in
    let in-used : i < c.args.used = omega (arith, c.loop-q-test.true, length-take-le c.args.used c.args.order.now c.requires.1) in
    let place : get_or (take c.args.used c.args.order.now) i 0 ≡ get_or c.args.order.now i 0 = get_or-take c.args.used c.args.order.now i 0 in-used in
    let named : ℕ → Bool = λ q. eqb (get_or (get_or c.args.entries.now q []) 0 0) c.args.h && ltb 0 (get_or (get_or c.args.entries.now q []) 1 0) in
    let told : named (get_or c.args.order.now i 0) ≡ false = sym (ap named place) ∙ sym c.names-in-loop-q.ensures ∙ c.if-names-2.false in
    c.loop-q.invariant ∙ scan-on c.args.h c.args.entries.now c.args.order.now c.args.used i in-used (c.requires.2 i in-used).0 told

pub returns : goal.returns
returns c =
    let over : c.args.used ≤ c.loop-q.q-index = omega (arith, c.loop-q-test.false, length-take-le c.args.used c.args.order.now c.requires.1) in
    sym (c.loop-q.invariant ∙ scan-over c.args.h c.args.entries.now c.args.order.now c.args.used c.loop-q.q-index over)
