-- `text::fields::byte_at` meets its contract. Assumes nothing.
use lib.ListN.{get_or-eq_default}
use Rattle.std.proofs.Common.{sym}
use Rattle.text.proofs.fields.byte_at.Goals as goal

pub returns : goal.returns
returns c = sym (get_or-eq_default c.args.bytes.now 0 c.if-i-bytes.false)
