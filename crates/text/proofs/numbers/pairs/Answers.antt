-- `text::numbers::pairs` meets its contract. Assumes nothing.
use Rattle.std.proofs.Common.{◌≡◌, ℕ, ◌+◌, ◌*◌, refl, ◌∙◌, subst, arith, length-set}
use Rattle.text.specs.Pairs.{Paired}
use Rattle.text.proofs.Pairing.{hex-at, pair_put}
use Rattle.text.proofs.numbers.pairs.Goals as goal

pub loop-i-init : goal.loop-i-init
unfolding Paired
loop-i-init c = (refl, λ j h. absurd (omega (arith, h)))

pub pair-requires : goal.pair-requires
pair-requires c =
    (hex-at c.args.bytes.now (2 * c.loop-i.i) c.requires.1 (omega arith), hex-at c.args.bytes.now (2 * c.loop-i.i + 1) c.requires.1 (omega arith))

pub loop-i-preserved : goal.loop-i-preserved
loop-i-preserved c =
    let l = c.loop-i in
    (length-set l.out l.i c.pair.result ∙ l.invariant.0, pair_put c.args.bytes.now l.out l.i c.pair.result (omega arith) l.invariant.1 c.pair.ensures)

pub returns : goal.returns
returns c =
    let l = c.loop-i in
    let e : l.i ≡ 8 = omega arith in
    subst (λ (n : ℕ). Paired c.args.bytes.now n l.out) e l.invariant.1
