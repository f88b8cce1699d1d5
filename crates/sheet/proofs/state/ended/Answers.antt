-- `sheet::state::ended` meets its contract. Assumes nothing.
use mathlib.Core.Path.{ap}
use Rattle.sheet.specs.declared.state.State.{State}
use Rattle.sheet.specs.declared.state.Next.{Next}
use Rattle.sheet.proofs.state.ended.Goals as goal

pub returns : goal.returns
returns c =
    let a = c.args in
    let made : State → Next = λ s. record { state = s; text = a.text } in
    ap made c.outside.ensures
