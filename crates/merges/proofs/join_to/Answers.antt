use Rattle.merges.proofs.Laying as laying
use Rattle.merges.proofs.join_to.Goals as goal

pub lay-first-requires : goal.lay-first-requires
lay-first-requires c =
    let a = c.args in
    laying.first_lay a.row a.j a.a.now a.other a.k a.b.now a.out.now c.requires

pub join-requires : goal.join-requires
join-requires c =
    let a = c.args in
    laying.then-join a.row a.j a.a.now a.other a.k a.b.now a.out.now c.requires c.lay-first.result c.lay-first.new.out c.lay-first.ensures

pub returns : goal.returns
returns c =
    let a = c.args in
    laying.both-laid a.row a.j a.a.now a.other a.k a.b.now a.out.now c.requires c.lay-first.result c.lay-first.new.out c.lay-first.ensures c.join.result c.join.new.a c.join.ensures
