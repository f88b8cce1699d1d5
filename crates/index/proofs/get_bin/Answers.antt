-- `index::get_bin` meets its contract: each test of the code is one of `bin_of`. Assumes nothing.
use mathlib.Core.Path.{sym, ap, ◌∙◌, subst}
use Prim.Native.Nat.{◌≤◌}
use native.Mathlib.Omega.{arith}
use Rattle.index.specs.Bins.{finest}
use Rattle.index.specs.Frexp.{PartsOf, Split}
use Rattle.index.specs.declared.Bin.TheVariants.{At}
use Rattle.index.proofs.Cases.{no-level, not_finite, zero, at_split}
use Rattle.index.proofs.get_bin.Goals as goal

pub returns-then-level-gt-FINEST : goal.returns-then-level-gt-FINEST
returns-then-level-gt-FINEST c = sym (no-level c.args.v c.args.level (omega arith))

pub bin_from-bin-requires : goal.bin_from-bin-requires
bin_from-bin-requires c =
    let p : Split c.args.v c.in-Number.negative c.in-Number.mantissa c.in-Number.exponent = subst (PartsOf c.args.v) c.in-Number.is c.frexp-parts.ensures in
    let held : c.args.level ≤ finest = omega arith in
    (p.least, p.most, p.lowest, p.highest, held)

pub returns-in-NotFinite : goal.returns-in-NotFinite
returns-in-NotFinite c =
    let held : c.args.level ≤ finest = omega arith in
    sym (not_finite c.args.v c.args.level held (subst (PartsOf c.args.v) c.in-NotFinite.is c.frexp-parts.ensures))

pub returns-in-Zero : goal.returns-in-Zero
returns-in-Zero c =
    let held : c.args.level ≤ finest = omega arith in
    let z = subst (PartsOf c.args.v) c.in-Zero.is c.frexp-parts.ensures in
    sym (zero c.args.v c.args.level held z.0 z.1)

pub returns-in-Number : goal.returns-in-Number
returns-in-Number c =
    let held : c.args.level ≤ finest = omega arith in
    let parts : Split c.args.v c.in-Number.negative c.in-Number.mantissa c.in-Number.exponent = subst (PartsOf c.args.v) c.in-Number.is c.frexp-parts.ensures in
    ap (At c.in-Number.negative) c.bin_from-bin.ensures
    ∙ sym (at_split c.args.v c.args.level c.in-Number.negative c.in-Number.mantissa c.in-Number.exponent held parts)
