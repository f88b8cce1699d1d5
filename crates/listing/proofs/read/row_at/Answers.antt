-- `listing::read::row_at` meets its contract. Assumes nothing.
use Prim.Native.Nat.{ℕ}
use mathlib.Core.Path.{ap, ap₂, ◌∙◌}
use mathlib.Core.List.{List}
use lib.ListN.{take, drop}
use Rattle.laws.specs.Pick.{pick}
use Rattle.listing.proofs.Cases.{rest-is}
use Rattle.listing.proofs.read.row_at.Goals as goal

pub returns : goal.returns
returns c =
    let a = c.args in
    c.row_of.ensures
    ∙ ap₂ (λ (x y : List ℕ). pick a.negative x y)
    (rest-is a.neg.now a.at.neg c.shorter-j.result c.shorter-j.ensures c.far-m.result
    ∙ ap (λ (k : ℕ). take k (drop a.at.neg a.neg.now)) c.far-m.ensures)
    (rest-is a.pos.now a.at.pos c.shorter-i.result c.shorter-i.ensures c.far-n.result
    ∙ ap (λ (k : ℕ). take k (drop a.at.pos a.pos.now)) c.far-n.ensures)
