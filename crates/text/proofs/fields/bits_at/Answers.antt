-- `text::fields::bits_at` meets its contract. Assumes nothing.
use Rattle.std.proofs.Common.{ap, ◌∙◌}
use Rattle.text.specs.Numbers.{bits_of}
use Rattle.text.proofs.fields.bits_at.Goals as goal

pub returns : goal.returns
returns c = c.bits.ensures ∙ ap bits_of c.field-p.ensures.to_value
