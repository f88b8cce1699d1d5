-- `gauge_lines::calls::record` meets its contract. Assumes nothing.
use Prim.Native.Nat.{ℕ}
use mathlib.Core.Path.{sym, ap, ◌∙◌}
use mathlib.Core.List.{List}
use lib.ListN.{take}
use Rattle.gauge_lines.proofs.Following.{record-refused, record-made}
use Rattle.gauge_lines.proofs.calls.record.Goals as goal

pub returns-in_err-b : goal.returns-in_err-b
returns-in_err-b c =
    let a = c.args in
    record-refused a.g a.line.now _ _ c.from_residual.result (sym c.board_in.ensures.value ∙ c.in_err-b.was) c.from_residual.ensures

pub returns : goal.returns
returns c =
    let a = c.args in
    let b = c.in_ok-b.b in
    record-made a.g a.line.now _ _ c.answered.result b (sym c.board_in.ensures.value ∙ c.in_ok-b.was)
    c.of_bits.result c.of_bits.ensures c.given.result.now
    (c.given.ensures ∙ ap (λ (x : List (List ℕ)). take b.many x) c.board_in.ensures.attrs_after)
    c.measure-reply.result _ _ c.measure-reply.ensures c.answered.ensures
