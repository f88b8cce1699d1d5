-- `sheet::collect::turned` meets its contract. Assumes nothing.
use mathlib.Core.Path.{ap}
use mathlib.Core.Bool.{true}
use Rattle.clock.specs.declared.Turned.{Turned}
use Rattle.sheet.specs.declared.collect.Turn.{Turn}
use Rattle.sheet.proofs.collect.turned.Goals as goal

pub returns : goal.returns
returns c =
    let a = c.args in
    let made : Turned → Turn = λ t. record {
      gauge = record { running = true; settings = a.g.settings; dir = a.dir; clock = t.clock };
      header = record { start = t.start; time = a.time; delta = true };
    } in
    ap made c.after_delta-t.ensures
