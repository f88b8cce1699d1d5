-- `sheet_writing::put::put_found` meets its contract. Assumes nothing.
use native.Mathlib.Omega.{arith}
use Rattle.sheet_writing.proofs.Putting.{found-laid, found-width}
use Rattle.sheet_writing.proofs.put.put_found.Goals as goal

pub put_point-requires : goal.put_point-requires
put_point-requires c =
    let a = c.args in
    let w =
    found-width a.at a.e a.pos.now a.neg.now _ _ a.bounds.now _ c.requires.whole_there
    c.bounds_at-own.ensures c.row_at-xs.ensures c.row_at-ys.ensures in record { room = c.requires.room; neg_bound = omega (arith, c.requires.e_bound, w) }

pub returns : goal.returns
returns c =
    let a = c.args in
    found-laid a.info a.n a.k a.row.now a.e.point _ _ _ _ _ _ a.s.now _ c.bounds_at-own.ensures c.row_at-xs.ensures c.row_at-ys.ensures
    c.put_point.ensures
