use Rattle.std.proofs.Common.{◌≡◌, ℕ, ◌+◌, ◌/◌, ◌%◌, ◌<◌, get_or, take, sym, ap, ◌∙◌, arith}
use lib.Seq.{length-take-le, get_or-take}
use mir.Syntax.{w64}
use mir.Val.{Fits}
use Rattle.laws.specs.Counting.{sum}
use Rattle.rows.proofs.Laws.{sum_step}
use Rattle.exponential.specs.Inner.{halved}
use Rattle.exponential.proofs.Rowed.{half-fits, half-next, low_small, high_small, half-more}
use Rattle.exponential.proofs.sum_halves.Goals as goal

pub overflow_add-low : goal.overflow_add-low
overflow_add-low c =
    let a = c.args in
    let l = c.loop-x in
    let x = get_or (take a.n a.counts.now) l.x-index 0 in
    let more : l.x-index < a.n = omega (arith, c.loop-x-test.true, length-take-le a.n a.counts.now c.requires.n_in_bounds.0) in
    record { fits = half-fits l.low a.from.low l.x-index a.n (x % 4294967296) more c.requires.n_in_bounds.1 c.requires.low_bound.0 l.invariant.2 (low_small x) }

pub overflow_add-high : goal.overflow_add-high
overflow_add-high c =
    let a = c.args in
    let l = c.loop-x in
    let x = get_or (take a.n a.counts.now) l.x-index 0 in
    let more : l.x-index < a.n = omega (arith, c.loop-x-test.true, length-take-le a.n a.counts.now c.requires.n_in_bounds.0) in
    let k : Fits w64 x = rw (get_or-take a.n a.counts.now l.x-index 0 more) (c.type_inv.counts l.x-index) in
    record { fits = half-fits l.high a.from.high l.x-index a.n (x / 4294967296) more c.requires.n_in_bounds.1 c.requires.low_bound.1 l.invariant.3 (high_small x k.fits) }

pub loop-x-preserved : goal.loop-x-preserved
loop-x-preserved c =
    let l = c.loop-x in
    let a = c.args in
    let f = a.from in
    let i = l.x-index in
    let xs = a.counts.now in
    let x = get_or (take a.n xs) i 0 in
    let more : i < a.n = omega (arith, c.loop-x-test.true, length-take-le a.n xs c.requires.n_in_bounds.0) in
    let here = get_or-take a.n xs i 0 more in
    let k : Fits w64 x = rw here (c.type_inv.counts i) in
    let next : (w : ℕ → ℕ) → sum w (take (i + 1) xs) ≡ sum w (take i xs) + w x =
    λ w. sum_step w i xs (omega (arith, c.requires.n_in_bounds.0)) ∙ (λ j. sum w (take i xs) + w (sym here j)) in (
      half-more l.low f.low (sum (λ x. x % 4294967296) (take i xs)) (sum (λ x. x % 4294967296) (take (i + 1) xs)) (x % 4294967296) l.invariant.0 (next (λ x. x % 4294967296)),
      half-more l.high f.high (sum (λ x. x / 4294967296) (take i xs)) (sum (λ x. x / 4294967296) (take (i + 1) xs)) (x / 4294967296) l.invariant.1 (next (λ x. x / 4294967296)),
      half-next l.low f.low i (x % 4294967296) l.invariant.2 (low_small x),
      half-next l.high f.high i (x / 4294967296) l.invariant.3 (high_small x k.fits),
    )

pub returns : goal.returns
unfolding halved
returns c =
    let l = c.loop-x in
    let a = c.args in
    let f = a.from in
    let xs = a.counts.now in
    let e : l.x-index ≡ a.n = omega (arith, c.loop-x-test.false, l.auto.x-index-end, length-take-le a.n xs c.requires.n_in_bounds.0) in
    let p = l.invariant.0 ∙ ap (λ (i : ℕ). f.low + sum (λ x. x % 4294967296) (take i xs)) e in
    let q = l.invariant.1 ∙ ap (λ (i : ℕ). f.high + sum (λ x. x / 4294967296) (take i xs)) e in
    record { value = (λ j. record { low = p j; high = q j }); low_bound_2 = (rw e at l.invariant.2, rw e at l.invariant.3) }
