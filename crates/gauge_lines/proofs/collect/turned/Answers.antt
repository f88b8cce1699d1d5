-- `gauge_lines::collect::turned` meets its contract. Assumes nothing.
use mathlib.Core.Path.{ap}
use mathlib.Core.Bool.{true}
use Rattle.clock.specs.declared.Turned.{Turned}
use Rattle.gauge_lines.specs.declared.collect.Turn.{Turn}
use Rattle.gauge_lines.proofs.collect.turned.Goals as goal

pub returns : goal.returns
returns c =
    let a = c.args in
    let made : Turned → Turn = λ t. record {
      gauge = record { running = true; settings = a.g.settings; dir = a.dir; clock = t.clock };
      start = t.start;
    } in
    ap made c.after_delta-t.ensures
