-- `listing::put::pos_len` meets its contract. Assumes nothing.
use mathlib.Core.Path.{sym}
use native.Mathlib.Omega.{arith}
use Rattle.listing.proofs.Cases.{explicit-len}
use Rattle.listing.proofs.put.pos_len.Goals as goal

pub overflow_add-result : goal.overflow_add-result
overflow_add-result c =
    omega (arith, explicit-len c.args.f c.args.b _ c.in-Explicit.is c.if-b-eq0.false, c.requires)

pub returns-else-b-eq0 : goal.returns-else-b-eq0
returns-else-b-eq0 c =
    sym (explicit-len c.args.f c.args.b _ c.in-Explicit.is c.if-b-eq0.false)
