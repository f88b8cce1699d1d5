use Prim.Native.Nat.{ℕ, ◌+◌, ◌-◌, ◌/◌, ◌^◌, ◌≤◌, ◌<◌}
use mathlib.Core.Path.{◌≡◌, refl, sym, ◌∙◌, subst}
use native.Mathlib.Omega.{arith}
use lib.ListN.{length, take, get_or}
use lib.Seq.{length-take-le, get_or-take}
use lib.Pow.{shr_mono}
use Rattle.rows.specs.Rows.{over, add_at}
use Rattle.rows.proofs.Adds.{over-self}
use Rattle.merges.specs.Merges.{add_low}
use Rattle.merges.proofs.Lowly.{Turn, turn}
use Rattle.merges.proofs.add_low.Goals as goal

pub loop-x-init : goal.loop-x-init
unfolding add_low
loop-x-init c =
    (omega arith, sym (length-take-le c.args.n c.args.counts.now c.requires.n_in_bounds.0), sym (over-self c.args.n c.args.counts.now c.requires.n_in_bounds.0), refl, c.requires.n_in_bounds.0)

pub add_at-len-requires-clause-v_bound : goal.add_at-len-requires-clause-v_bound
add_at-len-requires-clause-v_bound c =
    let l = c.loop-x in
    let a = c.args in
    let more : l.x-index < a.m = omega (arith, c.loop-x-test.true, length-take-le a.m a.other.now c.requires.n_in_bounds.1) in
    let here : l.index ≤ a.t + (a.m - 1) = omega (arith, l.invariant.0, more) in
    let at : l.index / 2 ^ a.k - a.s < length a.counts.now = omega (arith, shr_mono {a = l.index} {b = a.t + (a.m - 1)} a.k here, c.requires.s_in_bounds) in
    let q : Turn a.counts.now a.other.now l.counts a.k a.s a.t a.n l.x-index l.len =
    turn a.counts.now a.other.now l.counts a.k a.s a.t a.n a.m l.x-index l.len more c.requires.n_in_bounds.1
    (subst (λ (i : ℕ). i / 2 ^ a.k - a.s < length a.counts.now) l.invariant.0 at) c.requires.other_bound l.invariant.4 l.invariant.1 l.invariant.2 in
    subst (λ (y : ℕ). get_or (take l.len l.counts) (l.index / 2 ^ a.k - a.s) 0 + y < 2 ^ 64) (sym (get_or-take a.m a.other.now l.x-index 0 more))
    (subst (λ (i : ℕ). get_or (take l.len l.counts) (i / 2 ^ a.k - a.s) 0 + get_or a.other.now l.x-index 0 < 2 ^ 64) (sym l.invariant.0) q.fits)

pub loop-x-preserved : goal.loop-x-preserved
loop-x-preserved c =
    let l = c.loop-x in
    let a = c.args in
    let more : l.x-index < a.m = omega (arith, c.loop-x-test.true, length-take-le a.m a.other.now c.requires.n_in_bounds.1) in
    let here : l.index ≤ a.t + (a.m - 1) = omega (arith, l.invariant.0, more) in
    let at : l.index / 2 ^ a.k - a.s < length a.counts.now = omega (arith, shr_mono {a = l.index} {b = a.t + (a.m - 1)} a.k here, c.requires.s_in_bounds) in
    let q : Turn a.counts.now a.other.now l.counts a.k a.s a.t a.n l.x-index l.len =
    turn a.counts.now a.other.now l.counts a.k a.s a.t a.n a.m l.x-index l.len more c.requires.n_in_bounds.1
    (subst (λ (i : ℕ). i / 2 ^ a.k - a.s < length a.counts.now) l.invariant.0 at) c.requires.other_bound l.invariant.4 l.invariant.1 l.invariant.2 in
    let x = get_or a.other.now l.x-index 0 in
    let e = l.invariant.0 in
    let v = get_or-take a.m a.other.now l.x-index 0 more in
    let p : c.add_at-len.result ≡ length (add_at ((a.t + l.x-index) / 2 ^ a.k - a.s) x (take l.len l.counts)) =
    c.add_at-len.ensures.value ∙ (λ i. length (add_at (e i / 2 ^ a.k - a.s) (v i) (take l.len l.counts))) in
    let z = q.next c.add_at-len.result c.add_at-len.new.counts p
    (c.add_at-len.ensures.counts_after ∙ (λ i. over (add_at (e i / 2 ^ a.k - a.s) (v i) (take l.len l.counts)) l.counts)) in
    (omega (arith, e), z.0, z.1, c.add_at-len.auto.counts ∙ l.invariant.3, omega (arith, p, q.long))
