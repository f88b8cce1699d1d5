-- `gauge_lines::calls::start` meets its contract. Assumes nothing.
use mathlib.Core.Path.{sym, ◌∙◌}
use mir.Syntax.{w32}
use mir.Val.{SFits}
use mir.ValLaws.{to_z-of_z}
use borrow.Author.Rules.{rules}
use Rattle.gauge_lines.proofs.Following.{start-refused, start-made}
use Rattle.gauge_lines.proofs.calls.start.Goals as goal

pub returns-in_err-w : goal.returns-in_err-w
returns-in_err-w c =
    let a = c.args in
    start-refused a.g a.line.now _ _ c.from_residual.result (sym c.settings_in.ensures ∙ c.in_err-w.was) c.from_residual.ensures

pub returns : goal.returns
returns c =
    let a = c.args in
    let f : SFits w32 c.in_ok-w.w.scale = search rules in
    start-made a.g a.line.now _ _ c.begun.result c.in_ok-w.w (sym c.settings_in.ensures ∙ c.in_ok-w.was)
    _ (to_z-of_z w32 c.in_ok-w.w.scale f) c.configure-c.result _ c.configure-c.ensures c.begun.ensures
