-- `sheet::reading::records_in` meets its contract. Assumes nothing.
use mathlib.Core.Path.{sym, ◌∙◌}
use Rattle.sheet.proofs.Sheets.{other-letter, no-space, more-fields, records-are}
use Rattle.sheet.proofs.reading.records_in.Goals as goal

pub returns-then-byte_at-ne115 : goal.returns-then-byte_at-ne115
returns-then-byte_at-ne115 c =
    other-letter c.args.line.now (λ e. c.if-byte_at-ne115.true (c.byte_at.ensures ∙ e))

pub returns-then-byte_at-ne32 : goal.returns-then-byte_at-ne32
returns-then-byte_at-ne32 c =
    no-space c.args.line.now (sym c.byte_at.ensures ∙ c.if-byte_at-ne115.false) (λ e. c.if-byte_at-ne32.true (c.byte_at-2.ensures ∙ e))

pub returns-then-spaces-ne1 : goal.returns-then-spaces-ne1
returns-then-spaces-ne1 c =
    more-fields c.args.line.now (sym c.byte_at.ensures ∙ c.if-byte_at-ne115.false)
    (sym c.byte_at-2.ensures ∙ c.if-byte_at-ne32.false) (λ e. c.if-spaces-ne1.true (c.spaces.ensures ∙ e))

pub returns : goal.returns
returns c =
    records-are c.args.line.now (sym c.byte_at.ensures ∙ c.if-byte_at-ne115.false)
    (sym c.byte_at-2.ensures ∙ c.if-byte_at-ne32.false) (sym c.spaces.ensures ∙ c.if-spaces-ne1.false) c.decimal_at.result c.few.result
    c.decimal_at.ensures c.few.ensures
