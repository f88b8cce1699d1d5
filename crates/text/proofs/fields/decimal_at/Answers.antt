-- `text::fields::decimal_at` meets its contract. Assumes nothing.
use Rattle.std.proofs.Common.{ap, ◌∙◌}
use Rattle.text.specs.Numbers.{decimal_of}
use Rattle.text.proofs.fields.decimal_at.Goals as goal

pub returns : goal.returns
returns c = c.decimal.ensures ∙ ap decimal_of c.field-p.ensures.to_value
