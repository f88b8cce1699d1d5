-- `sheet::reading::few` meets its contract. Assumes nothing.
use mathlib.Core.Path.{sym, ap, ◌∙◌}
use Rattle.sheet.specs.Shown.{few_in}
use Rattle.sheet.proofs.Sheets.{few-none, few-is}
use Rattle.sheet.proofs.reading.few.Goals as goal

pub returns-in_err-records : goal.returns-in_err-records
returns-in_err-records c = c.from_residual.ensures ∙ sym (ap few_in c.in_err-records.was)

pub returns-then-records-gt-MOST_RECORDS : goal.returns-then-records-gt-MOST_RECORDS
returns-then-records-gt-MOST_RECORDS c = few-none _ c.if-records-gt-MOST_RECORDS.true ∙ sym (ap few_in c.in_ok-records.was)

pub returns : goal.returns
returns c = few-is _ c.if-records-gt-MOST_RECORDS.false ∙ sym (ap few_in c.in_ok-records.was)
