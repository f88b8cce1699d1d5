use Prim.Native.Nat.{ℕ}
use mathlib.Core.Path.{◌≡◌, sym, ◌∙◌}
use mathlib.Core.Bool.{Bool, true}
use Rattle.point.specs.Handing.{Stored, stored}
use Rattle.point.proofs.Calls as calls
use Rattle.point.proofs.refusal.Goals as goal

pub returns-then-not-size_fits : goal.returns-then-not-size_fits
returns-then-not-size_fits c =
    let first : Stored = stored c.args.a c.args.abounds.now c.args.apos.now c.args.aneg.now in
    let second : Stored = stored c.args.b c.args.bbounds.now c.args.bpos.now c.args.bneg.now in
    calls.bad-size c.args.size (first) (second) (sym c.size_fits.ensures ∙ c.if-not-size_fits.true)

pub returns-then-not-point_agrees : goal.returns-then-not-point_agrees
returns-then-not-point_agrees c =
    let first : Stored = stored c.args.a c.args.abounds.now c.args.apos.now c.args.aneg.now in
    let second : Stored = stored c.args.b c.args.bbounds.now c.args.bpos.now c.args.bneg.now in
    let Passed : (ℕ → Stored → Stored → Bool) → Type 0 = λ test. test c.args.size (first) (second) ≡ true in
    let sized : Passed calls.size_ok = sym c.size_fits.ensures ∙ c.if-not-size_fits.false in
    calls.bad-first c.args.size (first) (second) (sized) (sym c.point_agrees.ensures ∙ c.if-not-point_agrees.true)

pub returns-then-not-point_agrees-2 : goal.returns-then-not-point_agrees-2
returns-then-not-point_agrees-2 c =
    let first : Stored = stored c.args.a c.args.abounds.now c.args.apos.now c.args.aneg.now in
    let second : Stored = stored c.args.b c.args.bbounds.now c.args.bpos.now c.args.bneg.now in
    let Passed : (ℕ → Stored → Stored → Bool) → Type 0 = λ test. test c.args.size (first) (second) ≡ true in
    let sized : Passed calls.size_ok = sym c.size_fits.ensures ∙ c.if-not-size_fits.false in
    let first-agrees : Passed calls.first_ok = sym c.point_agrees.ensures ∙ c.if-not-point_agrees.false in
    calls.bad-second c.args.size (first) (second) (sized) (first-agrees) (sym c.point_agrees-2.ensures ∙ c.if-not-point_agrees-2.true)

pub returns-then-not-same_kind : goal.returns-then-not-same_kind
returns-then-not-same_kind c =
    let first : Stored = stored c.args.a c.args.abounds.now c.args.apos.now c.args.aneg.now in
    let second : Stored = stored c.args.b c.args.bbounds.now c.args.bpos.now c.args.bneg.now in
    let Passed : (ℕ → Stored → Stored → Bool) → Type 0 = λ test. test c.args.size (first) (second) ≡ true in
    let sized : Passed calls.size_ok = sym c.size_fits.ensures ∙ c.if-not-size_fits.false in
    let first-agrees : Passed calls.first_ok = sym c.point_agrees.ensures ∙ c.if-not-point_agrees.false in
    let second-agrees : Passed calls.second_ok = sym c.point_agrees-2.ensures ∙ c.if-not-point_agrees-2.false in
    calls.unlike c.args.size (first) (second) (sized) (first-agrees) (second-agrees) (sym c.same_kind.ensures ∙ c.if-not-same_kind.true)

pub returns-then-not-same_switch : goal.returns-then-not-same_switch
returns-then-not-same_switch c =
    let first : Stored = stored c.args.a c.args.abounds.now c.args.apos.now c.args.aneg.now in
    let second : Stored = stored c.args.b c.args.bbounds.now c.args.bpos.now c.args.bneg.now in
    let Passed : (ℕ → Stored → Stored → Bool) → Type 0 = λ test. test c.args.size (first) (second) ≡ true in
    let sized : Passed calls.size_ok = sym c.size_fits.ensures ∙ c.if-not-size_fits.false in
    let first-agrees : Passed calls.first_ok = sym c.point_agrees.ensures ∙ c.if-not-point_agrees.false in
    let second-agrees : Passed calls.second_ok = sym c.point_agrees-2.ensures ∙ c.if-not-point_agrees-2.false in
    let alike : Passed calls.kind_ok = sym c.same_kind.ensures ∙ c.if-not-same_kind.false in
    calls.unlike_switch c.args.size (first) (second) (sized) (first-agrees) (second-agrees) (alike) (sym c.same_switch.ensures ∙ c.if-not-same_switch.true)

pub returns-then-not-counts_fit : goal.returns-then-not-counts_fit
returns-then-not-counts_fit c =
    let first : Stored = stored c.args.a c.args.abounds.now c.args.apos.now c.args.aneg.now in
    let second : Stored = stored c.args.b c.args.bbounds.now c.args.bpos.now c.args.bneg.now in
    let Passed : (ℕ → Stored → Stored → Bool) → Type 0 = λ test. test c.args.size (first) (second) ≡ true in
    let sized : Passed calls.size_ok = sym c.size_fits.ensures ∙ c.if-not-size_fits.false in
    let first-agrees : Passed calls.first_ok = sym c.point_agrees.ensures ∙ c.if-not-point_agrees.false in
    let second-agrees : Passed calls.second_ok = sym c.point_agrees-2.ensures ∙ c.if-not-point_agrees-2.false in
    let alike : Passed calls.kind_ok = sym c.same_kind.ensures ∙ c.if-not-same_kind.false in
    let switched : Passed calls.switch_ok = sym c.same_switch.ensures ∙ c.if-not-same_switch.false in
    calls.too_many c.args.size (first) (second) (sized) (first-agrees) (second-agrees) (alike) (switched) (sym c.counts_fit.ensures ∙ c.if-not-counts_fit.true)

pub returns : goal.returns
returns c =
    let first : Stored = stored c.args.a c.args.abounds.now c.args.apos.now c.args.aneg.now in
    let second : Stored = stored c.args.b c.args.bbounds.now c.args.bpos.now c.args.bneg.now in
    let Passed : (ℕ → Stored → Stored → Bool) → Type 0 = λ test. test c.args.size (first) (second) ≡ true in
    let sized : Passed calls.size_ok = sym c.size_fits.ensures ∙ c.if-not-size_fits.false in
    let first-agrees : Passed calls.first_ok = sym c.point_agrees.ensures ∙ c.if-not-point_agrees.false in
    let second-agrees : Passed calls.second_ok = sym c.point_agrees-2.ensures ∙ c.if-not-point_agrees-2.false in
    let alike : Passed calls.kind_ok = sym c.same_kind.ensures ∙ c.if-not-same_kind.false in
    let switched : Passed calls.switch_ok = sym c.same_switch.ensures ∙ c.if-not-same_switch.false in
    calls.none c.args.size (first) (second) (sized) (first-agrees) (second-agrees) (alike) (switched) (sym c.counts_fit.ensures ∙ c.if-not-counts_fit.false)
