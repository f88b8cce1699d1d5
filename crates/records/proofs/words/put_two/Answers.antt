-- `records::words::put_two` meets its contract. Assumes nothing.
use lib.ListN.{length-set}
use native.Mathlib.Numerals.{add-one}
use native.Mathlib.Omega.{arith}
use Rattle.records.specs.Words.{bytes2}
use Rattle.records.proofs.words.put_two.Goals as goal

pub bounds-s-i-2 : goal.bounds-s-i-2
bounds-s-i-2 c = simp length-set (omega arith)

pub returns : goal.returns
unfolding bytes2
returns c = rw add-one
