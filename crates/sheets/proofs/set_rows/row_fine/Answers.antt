-- `sheets::set_rows::row_fine` meets its contract. Assumes nothing.
use mathlib.Core.Path.{◌≡◌, sym, ◌∙◌}
use lib.ListN.{length}
use native.Mathlib.Omega.{arith}
use Rattle.sheets.proofs.SetLaws.{row-long, row_unclean, row-empty, row_named}
use Rattle.sheets.proofs.set_rows.row_fine.Goals as goal

pub returns-then-n-gt8 : goal.returns-then-n-gt8
returns-then-n-gt8 c = let l : length c.args.row ≡ 9 = omega arith in row-long c.args.row l c.if-n-gt8.true

pub returns-then-not-zeros_from : goal.returns-then-not-zeros_from
returns-then-not-zeros_from c =
    row_unclean c.args.row c.if-n-gt8.false (sym c.zeros_from.ensures ∙ c.if-not-zeros_from.true)

pub returns-then-n-eq0 : goal.returns-then-n-eq0
returns-then-n-eq0 c =
    let l : length c.args.row ≡ 9 = omega arith in
    row-empty c.args.row l c.if-n-gt8.false (sym c.zeros_from.ensures ∙ c.if-not-zeros_from.false) c.if-n-eq0.true

pub returns : goal.returns
returns c =
    let l : length c.args.row ≡ 9 = omega arith in
    c.sound.ensures ∙ row_named c.args.row l c.if-n-gt8.false (sym c.zeros_from.ensures ∙ c.if-not-zeros_from.false) c.if-n-eq0.false
