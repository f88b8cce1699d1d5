-- `sheet_reading::copy::copy_entry` meets its contract. Assumes nothing.
use native.Mathlib.Omega.{arith}
use Rattle.sheet_reading.proofs.CopyLaws.{floats-there, pos-there, neg-there, copy-made}
use Rattle.sheet_reading.proofs.copy.copy_entry.Goals as goal

pub read_floats-requires : goal.read_floats-requires
read_floats-requires c =
    floats-there c.requires

pub overflow_add-q : goal.overflow_add-q
overflow_add-q c =
    omega (arith, c.requires.pos)

pub read_run-requires : goal.read_run-requires
read_run-requires c =
    pos-there c.requires c.width_of.result c.width_of.ensures

pub overflow_add-v : goal.overflow_add-v
overflow_add-v c =
    omega (arith, c.requires.neg)

pub overflow_add-c-3 : goal.overflow_add-c-3
overflow_add-c-3 c =
    omega (arith, c.requires.there.0, c.width_of.ensures, c.requires.few.pos)

pub read_run-requires-2 : goal.read_run-requires-2
read_run-requires-2 c =
    neg-there c.requires c.width_of.result c.width_of.ensures

pub returns : goal.returns
returns c =
    copy-made c.requires c.row_at.result c.point_of.result c.words_of.result c.read_floats.new.out c.width_of.result
    c.read_run.new.out c.read_run-2.new.out
    c.row_at.ensures c.point_of.ensures c.words_of.ensures c.read_floats.ensures c.width_of.ensures
    c.read_run.ensures c.read_run-2.ensures
