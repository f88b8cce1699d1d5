-- `whole_map::exponential_map::takes` meets its contract. Assumes nothing.
use mathlib.Core.Path.{sym}
use borrow.Author.Tests.{lt-ltb}
use Prim.Native.Nat.{◌^◌}
use lib.Signed.{mag}
use Rattle.whole_map.proofs.exponential_map.takes.Goals as goal

pub returns : goal.returns
returns c = sym (lt-ltb (mag c.args.v) (2 ^ 63) c.ranges.v.sfits)
