-- `lines::attributes::several` meets its contract. Assumes nothing.
use Prim.Native.Nat.{ℕ, ◌+◌}
use mathlib.Core.Path.{refl, sym, ap, ◌∙◌}
use native.Mathlib.Omega.{arith}
use Rattle.std.specs.Prelude.{Some}
use Rattle.lines.specs.Spelled.{told}
use Rattle.lines.proofs.Parting.{from, kept_same, none_here, last-here, more-here, none_left}
use Rattle.lines.proofs.attributes.several.Goals as goal

pub loop-i-init : goal.loop-i-init
loop-i-init c = (omega arith, refl, refl)

pub attribute_at-requires : goal.attribute_at-requires
attribute_at-requires c = c.loop-i.invariant.0

pub returns-in_err-part : goal.returns-in_err-part
unfolding from
returns-in_err-part c =
    let l = c.loop-i in
    let f = none_here c.args.bytes.now l.i l.n l.attrs (sym c.in_err-part.ensures.0) in record { value = c.from_residual.ensures ∙ sym f.0 ∙ l.invariant.1; attrs_after = sym f.1 ∙ l.invariant.2 }

pub returns-then-bytes-part : goal.returns-then-bytes-part
unfolding from
returns-then-bytes-part c =
    let l = c.loop-i in
    let p = c.in_ok-part in
    let f = last-here c.args.bytes.now l.i p.part.to l.n l.attrs p.ensures.1 _ (sym p.ensures.0) c.if-bytes-part.true in record { value = ap (λ (n : ℕ). Some n) c.keep-n.ensures.value ∙ sym f.0 ∙ l.invariant.1; attrs_after = c.keep-n.ensures.attrs_after ∙ sym f.1 ∙ l.invariant.2 }

pub loop-i-smaller : goal.loop-i-smaller
loop-i-smaller c = omega (arith, c.in_ok-part.ensures.1)

pub loop-i-preserved : goal.loop-i-preserved
loop-i-preserved c =
    let l = c.loop-i in
    let p = c.in_ok-part in
    let f = more-here c.args.bytes.now l.i p.part.to l.n l.attrs p.ensures.1 _ (sym p.ensures.0) c.if-bytes-part.false in
    let r = from c.args.bytes.now (p.part.to + 1) in (
      omega arith,
      ap (λ (n : ℕ). told n r) c.keep-n.ensures.value ∙ sym f.0 ∙ l.invariant.1,
      kept_same r c.keep-n.ensures.value c.keep-n.ensures.attrs_after ∙ sym f.1 ∙ l.invariant.2,
    )

pub returns : goal.returns
unfolding from
returns c =
    let l = c.loop-i in
    let f = none_left c.args.bytes.now l.i l.n l.attrs c.loop-i-test.false in record { value = sym f.0 ∙ l.invariant.1; attrs_after = sym f.1 ∙ l.invariant.2 }
