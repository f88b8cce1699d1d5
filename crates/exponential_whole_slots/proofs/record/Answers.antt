-- `record` meets its contract. Assumes nothing.
use mathlib.Core.Path.{◌≡◌, sym, ap, ◌∙◌}
use mathlib.Core.Bool.{true}
use mathlib.Core.List.{[]}
use lib.ListN.{get_or}
use Rattle.rows.specs.Parts.{part_at}
use Rattle.integers.proofs.Range.{held}
use Rattle.refusals.specs.Refusals.{code, said}
use Rattle.exponential_wholes.specs.Series.{Outcome, recording}
use Rattle.exponential_slots.specs.Cells.{readable}
use Rattle.exponential_whole_slots.specs.Cells.{Cells, recorded_at}
use Rattle.exponential_whole_slots.proofs.Cases.{into, unread, called, written-by}
use Rattle.exponential_whole_slots.proofs.record.Goals as goal

pub returns-then-not-can_read : goal.returns-then-not-can_read
returns-then-not-can_read c =
    let lent : Cells = record { figures = c.args.figures.now; extremes = c.args.extremes.now; pos = c.args.pos.now; neg = c.args.neg.now } in
    let a = c.args in
    sym (unread a.size a.top a.sums a.x a.updated (lent) a.v (sym c.can_read.ensures ∙ c.if-not-can_read.true))

pub head_of-head-requires : goal.head_of-head-requires
head_of-head-requires c =
    let lent : Cells = record { figures = c.args.figures.now; extremes = c.args.extremes.now; pos = c.args.pos.now; neg = c.args.neg.now } in
    let can : readable c.args.updated (get_or (lent).figures c.args.x []) ≡ true = sym c.can_read.ensures ∙ c.if-not-can_read.false in
    can

pub returns : goal.returns
returns c =
    let lent : Cells = record { figures = c.args.figures.now; extremes = c.args.extremes.now; pos = c.args.pos.now; neg = c.args.neg.now } in
    let left : Outcome = record { answer = said c.record-got.result; pos = c.record-got.new.pos; neg = c.record-got.new.neg } in
    let series : left
    ≡ recording c.args.size c.args.top c.args.sums c.head_of-head.result
    (part_at c.args.size (lent).pos c.args.x) (part_at c.args.size (lent).neg c.args.x) c.args.v =
    let a = c.args in
    c.record-got.ensures
    ∙ ap (recording a.size a.top a.sums c.head_of-head.result (part_at a.size (lent).pos a.x) (part_at a.size (lent).neg a.x)) (held a.v c.ranges.v) in
    let can : readable c.args.updated (get_or (lent).figures c.args.x []) ≡ true = sym c.can_read.ensures ∙ c.if-not-can_read.false in
    let recorded : recorded_at c.args.size c.args.top c.args.sums c.args.x c.args.updated (lent) c.args.v
    ≡ into c.args.size c.args.x (lent) (left) =
    let a = c.args in
    let s = lent in
    called a.size a.top a.sums a.x a.updated s a.v (can)
    ∙ ap (λ h. into a.size a.x s (recording a.size a.top a.sums h (part_at a.size s.pos a.x) (part_at a.size s.neg a.x) a.v)) (sym c.head_of-head.ensures)
    ∙ ap (into a.size a.x s) (sym (series)) in
    let a = c.args in
    written-by a.size a.x (lent) (code c.keep.result) c.keep.new.figures c.keep.new.extremes a.top a.sums c.head_of-head.result a.v (left) (series)
    c.keep.ensures.value c.keep.ensures.figures_after c.keep.ensures.extremes_after
    ∙ sym (recorded)
