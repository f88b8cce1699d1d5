-- `text::numbers::without_minus` meets its contract. Assumes nothing.
use Rattle.std.proofs.Common.{sym, ap, ◌∙◌}
use Rattle.text.specs.Numbers.{without_minus}
use Rattle.text.proofs.numbers.without_minus.Goals as goal

pub returns-in_err-size : goal.returns-in_err-size
returns-in_err-size c = c.from_residual.ensures ∙ sym (ap without_minus c.in_err-size.was)

pub returns : goal.returns
returns c = sym (ap without_minus c.in_ok-size.was)
