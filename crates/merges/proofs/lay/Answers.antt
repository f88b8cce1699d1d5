use Rattle.merges.proofs.Laying as laying
use Rattle.merges.proofs.lay.Goals as goal

pub join-requires : goal.join-requires
join-requires c = let a = c.args in laying.layable a.row a.j a.a.now a.out.now c.requires

pub returns : goal.returns
returns c =
    let a = c.args in
    laying.laid a.row a.j a.a.now a.out.now c.requires c.join.result c.join.new.a c.join.ensures
