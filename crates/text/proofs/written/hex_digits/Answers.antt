-- `text::written::hex_digits` meets its contract: the digits from place i on stand. Assumes nothing.
use Rattle.std.proofs.Common.{◌≡◌, ℕ, suc, ◌+◌, ◌-◌, ◌/◌, ◌%◌, ◌^◌, ◌≤◌, List, length, drop, set, sym, refl, ap, ◌∙◌, subst, div-one, arith, length-set}
use Rattle.text.specs.Numbers.{glyph_of, hex_digits}
use Rattle.text.proofs.Spelling.{digit-put, digit-less}
use Rattle.text.proofs.written.hex_digits.Goals as goal

-- a turn, over plain numbers: the place is p + 1
turn : (out : List ℕ) (bits rest p g : ℕ) → p + 1 ≤ 16 → rest ≡ bits / 16 ^ (16 - (p + 1)) → drop (p + 1) out ≡ hex_digits (16 - (p + 1)) bits → length out ≡ 16 → g ≡ glyph_of (rest % 16)
    → (rest / 16 ≡ bits / 16 ^ (16 - p)) × (drop p (set out p g) ≡ hex_digits (16 - p) bits) × (length (set out p g) ≡ 16)
turn out bits rest p g h r d n e =
    let k = 16 - (p + 1) in
    let s : suc k ≡ 16 - p = omega arith in
    let f : g ≡ glyph_of (bits / 16 ^ k % 16) = e ∙ ap (λ (x : ℕ). glyph_of (x % 16)) r in (
      ap (λ (x : ℕ). x / 16) r ∙ digit-less bits k ∙ ap (λ (x : ℕ). bits / 16 ^ x) s,
      ap (λ (x : ℕ). drop p (set out p x)) f ∙ digit-put out p k bits (omega arith) d ∙ ap (λ (x : ℕ). hex_digits x bits) s,
      length-set out p g ∙ n,
    )

pub loop-i-init : goal.loop-i-init
unfolding hex_digits
loop-i-init c = (omega arith, sym (div-one c.args.bits), refl, refl)

pub glyph-requires : goal.glyph-requires
glyph-requires c = tt

pub loop-i-preserved : goal.loop-i-preserved
loop-i-preserved c =
    let l = c.loop-i in
    let a = c.args in
    let p = l.i - 1 in
    let q : l.i ≡ p + 1 = omega (arith, c.loop-i-test.true) in
    let z = turn l.out a.bits l.rest p c.glyph.result (omega (arith, q, l.invariant.0))
    (subst (λ (n : ℕ). l.rest ≡ a.bits / 16 ^ (16 - n)) q l.invariant.1)
    (subst (λ (n : ℕ). drop n l.out ≡ hex_digits (16 - n) a.bits) q l.invariant.2)
    l.invariant.3 c.glyph.ensures in
    (omega arith, z.0, z.1, z.2)

pub returns : goal.returns
returns c =
    let l = c.loop-i in
    let z : l.i ≡ 0 = omega (arith, c.loop-i-test.false) in
    subst (λ (n : ℕ). drop n l.out ≡ hex_digits (16 - n) c.args.bits) z l.invariant.2
