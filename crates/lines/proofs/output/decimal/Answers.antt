-- `lines::output::decimal` meets its contract. Assumes nothing.
use Rattle.std.proofs.Common.{ℕ, ◌-◌, List, drop, ap, ◌∙◌, arith, length-drop}
use Rattle.std.proofs.lemmas.List.{take_all}
use Rattle.lines.specs.Gathered.{waiting, ◌behind◌}
use Rattle.lines.proofs.output.decimal.Goals as goal

pub returns : goal.returns
returns c =
    let a = c.args in
    let k = c.decimal_digits-from in
    let h = length-drop k.result k.new.digits in
    c.bytes.ensures
    ∙ ap (λ (ds : List ℕ). ds behind waiting a.n a.text.now)
    (take_all (20 - k.result) (drop k.result k.new.digits) (omega (arith, h)) ∙ k.ensures.value)
