-- `gauge_lines::fields::call_in` meets its contract. Assumes nothing.
use mathlib.Core.Path.{◌≡◌}
use Rattle.gauge_lines.specs.declared.fields.Call.{Call}
use Rattle.gauge_lines.specs.Lines.{by_letter, call_of}
use Rattle.gauge_lines.proofs.Asking.{no_line, empty-line, long-line, lettered, by-e, by-none, by-r, by-c, by-other}
use Rattle.gauge_lines.proofs.fields.call_in.Goals as goal

pub returns-then-over : goal.returns-then-over
returns-then-over c =
    let a = c.args in
    no_line a.line.now a.running a.over c.if-n-eq0.true c.if-over.true

pub returns-else-over : goal.returns-else-over
returns-else-over c =
    let a = c.args in
    empty-line a.line.now a.running a.over c.if-n-eq0.true c.if-over.false

pub returns-then-n-gt255 : goal.returns-then-n-gt255
returns-then-n-gt255 c =
    let a = c.args in
    long-line a.line.now a.running a.over c.if-n-eq0.false c.if-n-gt255.true

pub returns-then-letter-eq101 : goal.returns-then-letter-eq101
returns-then-letter-eq101 c =
    let by : (x : Call) → by_letter c.letter_in-letter.result c.args.running ≡ x → x ≡ call_of c.args.line.now c.args.running c.args.over =
    lettered c.args.line.now c.args.running c.args.over c.if-n-eq0.false c.if-n-gt255.false c.letter_in-letter.result
    c.letter_in-letter.ensures in
    by _ (by-e _ _ c.if-letter-eq101.true)

pub returns-then-not-running : goal.returns-then-not-running
returns-then-not-running c =
    let by : (x : Call) → by_letter c.letter_in-letter.result c.args.running ≡ x → x ≡ call_of c.args.line.now c.args.running c.args.over =
    lettered c.args.line.now c.args.running c.args.over c.if-n-eq0.false c.if-n-gt255.false c.letter_in-letter.result
    c.letter_in-letter.ensures in
    by _ (by-none _ _ c.if-letter-eq101.false c.if-not-running.true)

pub returns-then-letter-eq114 : goal.returns-then-letter-eq114
returns-then-letter-eq114 c =
    let by : (x : Call) → by_letter c.letter_in-letter.result c.args.running ≡ x → x ≡ call_of c.args.line.now c.args.running c.args.over =
    lettered c.args.line.now c.args.running c.args.over c.if-n-eq0.false c.if-n-gt255.false c.letter_in-letter.result
    c.letter_in-letter.ensures in
    by _ (by-r _ _ c.if-letter-eq101.false c.if-not-running.false c.if-letter-eq114.true)

pub returns-then-letter-eq99 : goal.returns-then-letter-eq99
returns-then-letter-eq99 c =
    let by : (x : Call) → by_letter c.letter_in-letter.result c.args.running ≡ x → x ≡ call_of c.args.line.now c.args.running c.args.over =
    lettered c.args.line.now c.args.running c.args.over c.if-n-eq0.false c.if-n-gt255.false c.letter_in-letter.result
    c.letter_in-letter.ensures in
    by _ (by-c _ _ c.if-letter-eq101.false c.if-not-running.false c.if-letter-eq114.false c.if-letter-eq99.true)

pub returns-else-letter-eq99 : goal.returns-else-letter-eq99
returns-else-letter-eq99 c =
    let by : (x : Call) → by_letter c.letter_in-letter.result c.args.running ≡ x → x ≡ call_of c.args.line.now c.args.running c.args.over =
    lettered c.args.line.now c.args.running c.args.over c.if-n-eq0.false c.if-n-gt255.false c.letter_in-letter.result
    c.letter_in-letter.ensures in
    by _ (by-other _ _ c.if-letter-eq101.false c.if-not-running.false c.if-letter-eq114.false c.if-letter-eq99.false)
