-- `directory::write::admit` meets its contract. Assumes nothing.
use Rattle.std.proofs.Common.{ℕ, ◌+◌, List, [], ◌∷◌, set, ap}
use Rattle.directory.specs.Calls.{admitted}
use Rattle.directory.proofs.write.admit.Goals as goal

pub returns : goal.returns
unfolding admitted
returns c =
    let x = c.args.d.used + 1 in
    ap (λ (o : List ℕ). record {
      dir = record { used = x; count = c.args.d.count + c.args.more; last = c.args.d.last + 1 };
      stores = record { sets = set c.args.sets.now x c.args.row; entries = set c.args.entries.now x ((c.args.d.last + 1) ∷ c.args.bound ∷ 0 ∷ []); order = o };
    }) c.insert.ensures
