-- `text::numbers::spelled` meets its contract: what is left says the same behind x as all of it behind 0. Assumes nothing.
use Rattle.std.proofs.Common.{◌≡◌, ◌^◌, ◌<◌, drop}
use Rattle.text.specs.Numbers.{spelled_from}
use Rattle.text.proofs.numbers.spelled.Given as goal

abbrev pub invariant-loop-byte : goal.invariant-loop-byte
invariant-loop-byte l = (l.x < 2 ^ 64) × (spelled_from 10 0 l.bytes ≡ spelled_from 10 l.x (drop l.byte-index l.bytes))
