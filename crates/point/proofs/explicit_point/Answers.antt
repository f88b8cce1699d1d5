use Rattle.point.proofs.explicit_point.Goals as goal

-- the point that is handed out is that of the head's own counts
pub returns : goal.returns
returns c = c.handed_out.ensures
