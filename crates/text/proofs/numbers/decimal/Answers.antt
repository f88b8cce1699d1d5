-- `text::numbers::decimal` meets its contract. Assumes nothing.
use Rattle.std.proofs.Common.{sym, ◌∙◌}
use Rattle.laws.proofs.Bools.{pick_true, pick-false}
use Rattle.text.specs.Numbers.{decimal_of}
use Rattle.text.proofs.numbers.decimal.Goals as goal

pub returns-then-ill_led : goal.returns-then-ill_led
unfolding decimal_of
returns-then-ill_led c = sym (pick_true _ _ _ (sym c.ill_led.ensures ∙ c.if-ill_led.true))

pub returns : goal.returns
unfolding decimal_of
returns c = c.spelled.ensures ∙ sym (pick-false _ _ _ (sym c.ill_led.ensures ∙ c.if-ill_led.false))
