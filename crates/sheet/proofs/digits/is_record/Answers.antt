-- `sheet::digits::is_record` meets its contract. Assumes nothing.
use mathlib.Core.Path.{sym, ap, ◌∙◌}
use mathlib.Core.Bool.{Bool, ◌&&◌}
use lib.ListN.{length}
use borrow.Author.Tests.{eq-eqb, ne_eqb}
use Rattle.laws.specs.Tests.{all}
use Rattle.sheet.specs.Digits.{is_digit, is_record}
use Rattle.sheet.proofs.digits.is_record.Goals as goal

pub returns-then-line-ne64 : goal.returns-then-line-ne64
unfolding is_record
returns-then-line-ne64 c =
    sym (ap (λ (t : Bool). t && all is_digit c.args.line.now) (ne_eqb (length c.args.line.now) 64 c.if-line-ne64.true))

pub returns : goal.returns
unfolding is_record
returns c =
    c.are_digits.ensures ∙ sym (ap (λ (t : Bool). t && all is_digit c.args.line.now) (eq-eqb (length c.args.line.now) 64 c.if-line-ne64.false))
