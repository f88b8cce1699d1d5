-- `text::numbers::spelled` meets its contract: what is left says the same behind x as all of it behind 0. Assumes nothing.
use Rattle.std.proofs.Common.{◌≡◌, ℕ, ◌+◌, ◌*◌, ◌^◌, ◌≤◌, get_or, drop, sym, ap, ◌∙◌, arith, drop_of_length-le}
use Rattle.text.specs.Numbers.{digit_of, spelled_from}
use Rattle.text.proofs.Spelling.{no_digit, too_large, next_digit}
use Rattle.text.proofs.Pairing.{digit_low, digit-high}
use Rattle.text.proofs.numbers.spelled.Goals as goal

pub returns-in_err-d : goal.returns-in_err-d
returns-in_err-d c =
    let l = c.loop-byte in
    let bs = c.args.bytes.now in
    c.from_residual.ensures ∙ sym (l.invariant.1 ∙ no_digit 10 l.x l.byte-index bs (omega arith) (digit-high (get_or bs l.byte-index 0) (sym c.in_err-d.ensures)))

pub returns-in_err-checked_mul : goal.returns-in_err-checked_mul
returns-in_err-checked_mul c =
    let l = c.loop-byte in
    let bs = c.args.bytes.now in
    let d = digit_low (get_or bs l.byte-index 0) c.in_ok-d.d (sym c.in_ok-d.ensures) in
    let g : 2 ^ 64 ≤ l.x * 10 = omega (arith, c.in_err-checked_mul.ensures) in
    c.from_residual-in_err-checked_mul.ensures ∙ sym (l.invariant.1 ∙ too_large 10 l.x l.byte-index bs (omega arith) (omega (arith, d.0, d.1)) (omega (arith, g)))

pub returns-in_err-x : goal.returns-in_err-x
returns-in_err-x c =
    let l = c.loop-byte in
    let bs = c.args.bytes.now in
    let d = digit_low (get_or bs l.byte-index 0) c.in_ok-d.d (sym c.in_ok-d.ensures) in
    let g : 2 ^ 64 ≤ l.x * 10 + c.in_ok-d.d = omega (arith, c.in_ok-checked_mul.ensures.1, c.in_err-x.ensures) in
    c.from_residual-in_err-x.ensures ∙ sym (l.invariant.1 ∙ too_large 10 l.x l.byte-index bs (omega arith) (omega (arith, d.0, d.1)) (omega (arith, d.1, g)))

pub loop-byte-preserved : goal.loop-byte-preserved
loop-byte-preserved c =
    let l = c.loop-byte in
    let bs = c.args.bytes.now in
    let b = digit_of (get_or bs l.byte-index 0) in
    let d = digit_low (get_or bs l.byte-index 0) c.in_ok-d.d (sym c.in_ok-d.ensures) in
    let x = c.in_ok-x.ensures in
    let e : l.x * 10 + b ≡ c.in_ok-x.x = omega (arith, c.in_ok-checked_mul.ensures.1, x.1, d.1) in (
      omega (arith, x.0, x.1),
      l.invariant.1
          ∙ next_digit 10 l.x l.byte-index bs (omega arith) (omega (arith, d.0, d.1)) (omega (arith, x.0, x.1, e))
          ∙ ap (λ (k : ℕ). spelled_from 10 k (drop (l.byte-index + 1) bs)) e,
    )

pub returns : goal.returns
unfolding spelled_from
returns c =
    let l = c.loop-byte in
    sym (l.invariant.1 ∙ ap (spelled_from 10 l.x) (drop_of_length-le c.args.bytes.now (omega arith)))
