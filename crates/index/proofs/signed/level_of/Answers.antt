-- `index::signed::level_of` meets its contract. Assumes nothing.
use mathlib.Core.Path.{◌≡◌, sym, ap, ◌∙◌, subst}
use mathlib.Core.Bool.{true, false}
use lib.Dec.{lit<, lit≤}
use lib.IntN.{ℤ, pos, negsuc, nat_abs}
use lib.Signed.{lt_z, le_z}
use mir.Syntax.{w32}
use mir.Val.{to_z, of_z}
use mir.ValLaws.{to_z-of_z}
use Rattle.std.specs.Prelude.{Some}
use Rattle.index.proofs.Casts.{sum_fits, sum_is, sum-natural, not-below, next}
use Rattle.index.proofs.SignedCases.{level-low, level-high, level-is}
use Rattle.index.proofs.signed.level_of.Goals as goal

pub returns-then-scale-ltminus10 : goal.returns-then-scale-ltminus10
returns-then-scale-ltminus10 c =
    let held : to_z w32 (of_z w32 c.args.scale) ≡ c.args.scale = to_z-of_z w32 c.args.scale c.ranges.scale in
    sym (level-low c.args.scale (subst (λ (z : ℤ). lt_z z (negsuc 9) ≡ true) (held) c.if-scale-ltminus10.true))

pub returns-then-scale-gt10 : goal.returns-then-scale-gt10
returns-then-scale-gt10 c =
    let held : to_z w32 (of_z w32 c.args.scale) ≡ c.args.scale = to_z-of_z w32 c.args.scale c.ranges.scale in
    sym (level-high c.args.scale (subst (λ (z : ℤ). lt_z z (negsuc 9) ≡ false) (held) c.if-scale-ltminus10.false) (subst (λ (z : ℤ). lt_z (pos 10) z ≡ true) (held) c.if-scale-gt10.true))

pub overflow_add-result : goal.overflow_add-result
overflow_add-result c =
    let held : to_z w32 (of_z w32 c.args.scale) ≡ c.args.scale = to_z-of_z w32 c.args.scale c.ranges.scale in
    let high : lt_z (pos 10) c.args.scale ≡ false = subst (λ (z : ℤ). lt_z (pos 10) z ≡ false) (held) c.if-scale-gt10.false in
    let under : le_z (pos 11) c.args.scale ≡ false = sym (next 10 c.args.scale) ∙ high in
    sum_fits c.args.scale 11 10 c.ranges.scale (under) (lit≤ tt) (lit< tt)

pub overflow_cast-result : goal.overflow_cast-result
overflow_cast-result c =
    let held : to_z w32 (of_z w32 c.args.scale) ≡ c.args.scale = to_z-of_z w32 c.args.scale c.ranges.scale in
    let high : lt_z (pos 10) c.args.scale ≡ false = subst (λ (z : ℤ). lt_z (pos 10) z ≡ false) (held) c.if-scale-gt10.false in
    let under : le_z (pos 11) c.args.scale ≡ false = sym (next 10 c.args.scale) ∙ high in
    let low : lt_z c.args.scale (negsuc 9) ≡ false = subst (λ (z : ℤ). lt_z z (negsuc 9) ≡ false) (held) c.if-scale-ltminus10.false in
    sum-natural c.args.scale 11 10 c.ranges.scale (under) (lit≤ tt) (lit< tt) (not-below c.args.scale (low))

pub returns : goal.returns
returns c =
    let held : to_z w32 (of_z w32 c.args.scale) ≡ c.args.scale = to_z-of_z w32 c.args.scale c.ranges.scale in
    let high : lt_z (pos 10) c.args.scale ≡ false = subst (λ (z : ℤ). lt_z (pos 10) z ≡ false) (held) c.if-scale-gt10.false in
    let under : le_z (pos 11) c.args.scale ≡ false = sym (next 10 c.args.scale) ∙ high in
    let low : lt_z c.args.scale (negsuc 9) ≡ false = subst (λ (z : ℤ). lt_z z (negsuc 9) ≡ false) (held) c.if-scale-ltminus10.false in
    ap (λ (z : ℤ). Some (nat_abs z)) (sum_is c.args.scale 11 10 c.ranges.scale (under) (lit≤ tt) (lit< tt)) ∙ sym (level-is c.args.scale (low) (high))
