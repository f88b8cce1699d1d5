-- `sheet_reading::judge::sizes_of` meets its contract. Assumes nothing.
use Rattle.sheet_reading.proofs.SizeLaws.{found-small, found-sizes}
use Rattle.sheet_reading.proofs.judge.sizes_of.Goals as goal

pub pos_len-requires : goal.pos_len-requires
pos_len-requires c =
    found-small c.args.w c.point_of-p.result c.bounds_of-b.result c.point_of-p.ensures c.bounds_of-b.ensures c.requires

pub returns : goal.returns
returns c =
    found-sizes c.args.w c.point_of-p.result c.bounds_of-b.result c.point_of-p.ensures c.bounds_of-b.ensures
    c.pos_len.result c.neg_len.result c.pos_len.ensures c.neg_len.ensures
