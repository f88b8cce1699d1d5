-- `exponential::sums::add_row` meets its contract. Assumes nothing.
use Rattle.std.proofs.Common.{◌≡◌, ◌+◌, ◌<◌, get_or, take, refl, sym, ◌∙◌, le_trans, arith}
use lib.Seq.{length-take-le, get_or-take}
use Rattle.laws.specs.Counting.{total}
use Rattle.rows.proofs.Laws.{total-step}
use Rattle.exponential.proofs.Wraps.{or_left, wraps-start, wraps-next, most-next}
use Rattle.exponential.proofs.sums.add_row.Goals as goal

pub loop-x-init : goal.loop-x-init
loop-x-init c = (wraps-start _ (omega (arith, c)), omega arith, omega arith)

pub loop-x-preserved : goal.loop-x-preserved
loop-x-preserved c =
    let l = c.loop-x in
    let a = c.args in
    let i = l.x-index in
    let xs = a.counts.now in
    let x = get_or (take a.n xs) i 0 in
    let more : i < a.n = omega (arith, c.loop-x-test.true, length-take-le a.n xs c.requires.0) in
    let t : total (take (i + 1) xs) ≡ total (take i xs) + x =
    total-step i xs (omega (arith, c.requires.0)) ∙ (λ j. total (take i xs) + sym (get_or-take a.n xs i 0 more) j) in (
      wraps-next l.sum a.from.sum (total (take i xs)) (total (take (i + 1) xs)) x _ l.invariant.0 t refl,
      le_trans l.invariant.1 (or_left l.most x),
      most-next i (total (take i xs)) (total (take (i + 1) xs)) x l.most l.invariant.2 t,
    )

pub returns : goal.returns
returns c =
    let l = c.loop-x in
    let e : l.x-index ≡ c.args.n = omega (arith, c.loop-x-test.false, l.auto.x-index-end, length-take-le c.args.n c.args.counts.now c.requires.0) in
    record { sum_value = rw e at l.invariant.0; most_le_most = (l.invariant.1, rw e at l.invariant.2) }
