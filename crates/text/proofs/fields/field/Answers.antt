-- `text::fields::field` meets its contract. Assumes nothing.
use Rattle.std.proofs.Common.{◌≡◌, ℕ, ◌-◌, length, take, drop, ap, ◌∙◌, arith}
use Rattle.text.specs.Fields.{until, field_of}
use Rattle.text.proofs.Splitting.{until-is}
use Rattle.text.proofs.fields.field.Goals as goal

pub returns : goal.returns
unfolding field_of
returns c =
    let xs = drop c.start-from.result c.args.line.now in
    let e : c.end-to.result - c.start-from.result ≡ length (until 32 xs) = omega (arith, c.end-to.ensures.1) in record { from_le_to = (omega (arith, c.end-to.ensures.1), c.end-to.ensures.0, c.start-from.ensures.1); to_value = ap (λ (n : ℕ). take n xs) e ∙ until-is 32 xs ∙ ap (λ (n : ℕ). until 32 (drop n c.args.line.now)) c.start-from.ensures.1 }
