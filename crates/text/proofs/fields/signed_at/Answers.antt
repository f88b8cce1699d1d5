-- `text::fields::signed_at` meets its contract. Assumes nothing.
use Rattle.std.proofs.Common.{ap, ◌∙◌}
use Rattle.text.specs.Numbers.{signed_of}
use Rattle.text.proofs.fields.signed_at.Goals as goal

pub returns : goal.returns
returns c = c.signed.ensures ∙ ap signed_of c.field-p.ensures.to_value
