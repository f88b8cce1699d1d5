-- `exponential_batches::series::record_all` meets its contract: what is recorded so far, and the values left, make the whole. Assumes nothing.
-- ---- in a turn
-- ---- refused
-- ---- taken
-- ---- the end
use Prim.Native.Nat.{ℕ}
use mathlib.Core.Path.{◌≡◌, refl, sym, ◌∙◌}
use mathlib.Core.Bool.{true}
use lib.ListN.{get_or}
use lib.Ieee.{Float, nan, binary64, fits}
use lib.Ieee.Bits.{is_true}
use lib.Ieee.Scale.{finite}
use native.Mathlib.Omega.{arith}
use Rattle.rows.specs.Recording.{after}
use Rattle.many.specs.Many.{each}
use Rattle.many.proofs.Turns.{begins, turn, halt, through}
use Rattle.exponential.specs.Series.{refusal_of}
use Rattle.exponential.specs.Inner.{Series}
use Rattle.exponential_batches.specs.Series.{series, left_to_ask, step}
use Rattle.exponential_batches.proofs.Steps.{asks_6, asks_9, asks_0, only, refused-by, sound-after}
use Rattle.exponential_batches.proofs.series.record_all.Goals as goal

pub loop-i-init : goal.loop-i-init
loop-i-init c =
    let a = c.args in
    (refl, refl, c.requires, begins (step a.size a.top) (series a.head a.pos.now a.neg.now) a.values.now)

pub shape_of-pos-then-not-is_finite : goal.shape_of-pos-then-not-is_finite
shape_of-pos-then-not-is_finite c = c.loop-i.invariant.0

pub shape_of-neg-then-not-is_finite : goal.shape_of-neg-then-not-is_finite
shape_of-neg-then-not-is_finite c = c.loop-i.invariant.1

pub returns-then-not-is_finite : goal.returns-then-not-is_finite
returns-then-not-is_finite c =
    let here : Series = let l = c.loop-i in record { head = l.h; pos = l.pos; neg = l.neg } in
    let value : Float = get_or c.args.values.now c.loop-i.i nan in
    let stops : (n : ℕ) → n ≡ left_to_ask (here).head (value) → (n ≡ 0 → ⊥) → let l = c.loop-i in let a = c.args in
    record { taken = l.i; no = n; left = here }
    ≡ each (step a.size a.top) (series a.head a.pos.now a.neg.now) a.values.now =
    λ n e d. let l = c.loop-i in
    let a = c.args in
    let r = refused-by a.size a.top (here) (value) l.invariant.2 n e d in
    sym (l.invariant.3 ∙ halt (step a.size a.top) (here) a.values.now l.i nan c.loop-i-test.true (after n (here)) r d) in
    stops 6 (sym (asks_6 (here).head (value) (sym c.is_finite.ensures ∙ c.if-not-is_finite.true))) (λ z. omega (arith, z))

pub shape_of-pos-then-h : goal.shape_of-pos-then-h
shape_of-pos-then-h c = c.loop-i.invariant.0

pub shape_of-neg-then-h : goal.shape_of-neg-then-h
shape_of-neg-then-h c = c.loop-i.invariant.1

pub returns-then-h : goal.returns-then-h
returns-then-h c =
    let here : Series = let l = c.loop-i in record { head = l.h; pos = l.pos; neg = l.neg } in
    let value : Float = get_or c.args.values.now c.loop-i.i nan in
    let stops : (n : ℕ) → n ≡ left_to_ask (here).head (value) → (n ≡ 0 → ⊥) → let l = c.loop-i in let a = c.args in
    record { taken = l.i; no = n; left = here }
    ≡ each (step a.size a.top) (series a.head a.pos.now a.neg.now) a.values.now =
    λ n e d. let l = c.loop-i in
    let a = c.args in
    let r = refused-by a.size a.top (here) (value) l.invariant.2 n e d in
    sym (l.invariant.3 ∙ halt (step a.size a.top) (here) a.values.now l.i nan c.loop-i-test.true (after n (here)) r d) in
    let finite-there : finite (value) ≡ true = sym c.is_finite.ensures ∙ c.if-not-is_finite.false in
    stops 9 (sym (asks_9 (here).head (value) (finite-there) c.if-h.true)) (λ z. omega (arith, z))

pub noted-h-requires : goal.noted-h-requires
noted-h-requires c =
    let here : Series = let l = c.loop-i in record { head = l.h; pos = l.pos; neg = l.neg } in
    let value : Float = get_or c.args.values.now c.loop-i.i nan in
    let finite-there : finite (value) ≡ true = sym c.is_finite.ensures ∙ c.if-not-is_finite.false in
    let passed : let a = c.args in
    refusal_of a.size a.top (here).head (here).pos (here).neg (value) ≡ 0 =
    let a = c.args in
    only a.size a.top (here) (value) c.loop-i.invariant.2 ∙ asks_0 (here).head (value) (finite-there) c.if-h.false in
    passed

pub loop-i-preserved : goal.loop-i-preserved
loop-i-preserved c =
    let value : Float = get_or c.args.values.now c.loop-i.i nan in
    let here : Series = let l = c.loop-i in record { head = l.h; pos = l.pos; neg = l.neg } in
    let gone : Series = record { head = c.noted-h.result; pos = c.noted-h.new.pos; neg = c.noted-h.new.neg } in
    let finite-there : finite (value) ≡ true = sym c.is_finite.ensures ∙ c.if-not-is_finite.false in
    let passed : let a = c.args in
    refusal_of a.size a.top (here).head (here).pos (here).neg (value) ≡ 0 =
    let a = c.args in
    only a.size a.top (here) (value) c.loop-i.invariant.2 ∙ asks_0 (here).head (value) (finite-there) c.if-h.false in
    let l = c.loop-i in
    let a = c.args in
    let f : fits binary64 (value) ≡ true = is_true (fits binary64 (value)) (c.shared_slice_known-1.given l.i) in (
      c.noted-h.auto.pos ∙ l.invariant.0,
      c.noted-h.auto.neg ∙ l.invariant.1,
      sound-after a.size a.top (here) (value) l.invariant.2 (after 0 (gone)) c.noted-h.ensures f (passed),
      l.invariant.3 ∙ turn (step a.size a.top) (here) a.values.now l.i nan c.loop-i-test.true (after 0 (gone)) c.noted-h.ensures refl,
    )

pub shape_of-pos : goal.shape_of-pos
shape_of-pos c = c.loop-i.invariant.0

pub shape_of-neg : goal.shape_of-neg
shape_of-neg c = c.loop-i.invariant.1

pub returns : goal.returns
returns c =
    let l = c.loop-i in
    let a = c.args in
    sym (l.invariant.3 ∙ through (step a.size a.top) (record { head = l.h; pos = l.pos; neg = l.neg }) a.values.now l.i (omega (arith, c.loop-i-test.false, l.auto.i-end)))
