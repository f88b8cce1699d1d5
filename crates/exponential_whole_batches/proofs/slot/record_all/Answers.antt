-- `slot::record_all` meets its contract. Assumes nothing.
use mathlib.Core.Path.{◌≡◌, sym, ap, subst, ◌∙◌}
use mathlib.Core.Bool.{true}
use Rattle.rows.specs.Parts.{part_at}
use Rattle.refusals.specs.Refusals.{code}
use Rattle.many.specs.Many.{Many, each}
use Rattle.exponential_wholes.specs.declared.Head.{Head}
use Rattle.exponential_whole_slots.specs.Cells.{Cells}
use Rattle.whole_map.specs.Exponential.{exponential_wholes}
use Rattle.batches.proofs.Slotted.{Ready}
use Rattle.exponential_whole_batches.specs.Series.{Series, Sound, step}
use Rattle.exponential_whole_batches.specs.Slot.{load}
use Rattle.exponential_whole_batches.proofs.AtSlot.{reads, sound-there, rows_long, known-agrees, ready, stops, ends}
use Rattle.exponential_whole_batches.proofs.slot.record_all.Goals as goal

pub agrees-requires : goal.agrees-requires
agrees-requires c =
    let lent : Cells = record { figures = c.args.figures.now; extremes = c.args.extremes.now; pos = c.args.pos.now; neg = c.args.neg.now } in
    let a = c.args in
    let l = rows_long a.known a.size a.top a.sums a.x a.updated (lent) a.values.now c.requires in record { top_value = (c.requires.set, l.0, l.1); neg_value = known-agrees a.known a.size a.top a.sums a.x a.updated (lent) a.values.now c.requires }

pub returns-then-not-agrees : goal.returns-then-not-agrees
returns-then-not-agrees c =
    let lent : Cells = record { figures = c.args.figures.now; extremes = c.args.extremes.now; pos = c.args.pos.now; neg = c.args.neg.now } in
    let a = c.args in
    stops a.known a.size a.top a.sums a.x a.updated (lent) a.values.now c.requires
    (sym c.agrees.ensures ∙ c.if-not-agrees.true)

pub head_of-head-requires : goal.head_of-head-requires
head_of-head-requires c =
    let lent : Cells = record { figures = c.args.figures.now; extremes = c.args.extremes.now; pos = c.args.pos.now; neg = c.args.neg.now } in
    let agreed : (let a = c.args in Ready (exponential_wholes a.size a.top a.sums) true a.x a.updated (lent)) =
    let a = c.args in
    ready a.known a.size a.top a.sums a.x a.updated (lent) a.values.now c.requires
    (sym c.agrees.ensures ∙ c.if-not-agrees.false) in
    let a = c.args in
    reads a.size a.top a.sums true a.x a.updated (lent) (agreed)

pub record_all-run-requires : goal.record_all-run-requires
record_all-run-requires c =
    let lent : Cells = record { figures = c.args.figures.now; extremes = c.args.extremes.now; pos = c.args.pos.now; neg = c.args.neg.now } in
    let under : Head → Series = λ y. let a = c.args in record { head = y; pos = part_at a.size (lent).pos a.x; neg = part_at a.size (lent).neg a.x } in
    let agreed : (let a = c.args in Ready (exponential_wholes a.size a.top a.sums) true a.x a.updated (lent)) =
    let a = c.args in
    ready a.known a.size a.top a.sums a.x a.updated (lent) a.values.now c.requires
    (sym c.agrees.ensures ∙ c.if-not-agrees.false) in
    let a = c.args in
    subst (λ (y : Head). Sound a.size a.top (under y)) (sym c.head_of-head.ensures)
    (sound-there a.size a.top a.sums true a.x a.updated (lent) (agreed))

pub keep-requires : goal.keep-requires
keep-requires c =
    (c.requires.room.figures, c.requires.room.extremes)

pub returns : goal.returns
returns c =
    let lent : Cells = record { figures = c.args.figures.now; extremes = c.args.extremes.now; pos = c.args.pos.now; neg = c.args.neg.now } in
    let agreed : (let a = c.args in Ready (exponential_wholes a.size a.top a.sums) true a.x a.updated (lent)) =
    let a = c.args in
    ready a.known a.size a.top a.sums a.x a.updated (lent) a.values.now c.requires
    (sym c.agrees.ensures ∙ c.if-not-agrees.false) in
    let gone : Many Series = record { taken = c.record_all-run.result.taken; no = code c.record_all-run.result.end; left = record { head = c.record_all-run.result.head; pos = c.record_all-run.new.pos; neg = c.record_all-run.new.neg } } in
    let under : Head → Series = λ y. let a = c.args in record { head = y; pos = part_at a.size (lent).pos a.x; neg = part_at a.size (lent).neg a.x } in
    let all : (let a = c.args in gone ≡ each (step a.size a.top a.sums) (load a.size a.top (lent) a.x a.updated) a.values.now) =
    let a = c.args in
    c.record_all-run.ensures ∙ ap (λ (y : Head). each (step a.size a.top a.sums) (under y) a.values.now) c.head_of-head.ensures in
    let a = c.args in
    ends a.known a.size a.top a.sums a.x a.updated (lent) a.values.now c.requires (agreed) (gone) (all)
    c.keep.new.figures c.keep.new.extremes c.keep.ensures.figures_after c.keep.ensures.extremes_after
