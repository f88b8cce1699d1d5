-- `exponential_batches::slot::record_all` meets its contract. Assumes nothing.
-- ---- the first value's number
-- ---- the slot's series
-- ---- what the loop left, and its end
use Prim.Native.Nat.{ℕ, ◌+◌, ◌*◌, ◌<◌}
use mathlib.Core.Path.{◌≡◌, sym, ap, subst, ◌∙◌}
use mathlib.Core.Bool.{true}
use native.Mathlib.Omega.{arith}
use lib.ListN.{get_or}
use lib.Ieee.{nan, binary64, fits}
use lib.Ieee.Bits.{is_true}
use Rattle.refusals.specs.Refusals.{number, code}
use Rattle.refusals.proofs.Numbers.{number-nonzero}
use Rattle.many.proofs.Refused.{not-refused}
use Rattle.many.specs.Many.{Many, each}
use Rattle.exponential.specs.declared.Head.{Head}
use Rattle.exponential.specs.Inner.{Series}
use Rattle.exponential_slots.specs.Cells.{Cells, cells}
use Rattle.value_map.proofs.ExponentialOwes.{owed}
use Rattle.kinds.proofs.Recorded.{histograms-steady}
use Rattle.value_map.specs.Exponential.{exponential_store}
use Rattle.batches.proofs.Slotted.{Ready, slot-ends}
use Rattle.batches.proofs.Asking.{asked-ready, asked-stops}
use Rattle.exponential_batches.specs.Series.{Sound, step}
use Rattle.exponential_batches.specs.Slot.{load}
use Rattle.exponential_batches.proofs.AtSlot.{reads, sound-there, end, kept_off, kept_on, slotted}
use Rattle.exponential_batches.proofs.slot.record_all.Goals as goal

pub returns-in-Err : goal.returns-in-Err
returns-in-Err c =
    let lent : Cells = let a = c.args in cells a.figures.now a.extremes.now a.pos.now a.neg.now in
    let a = c.args in
    asked-stops (owed a.size a.top) (true, true) nan a.known a.x a.updated (lent) a.values.now c.requires (number c.in-Err.e) (sym (ap code c.in-Err.is) ∙ c.refusal-asked.ensures) (number-nonzero c.in-Err.e)

pub head_of-head-requires : goal.head_of-head-requires
head_of-head-requires c =
    let lent : Cells = let a = c.args in cells a.figures.now a.extremes.now a.pos.now a.neg.now in
    let ready : let a = c.args in Ready (exponential_store a.size a.top) (true, true) a.x a.updated (lent) =
    let a = c.args in
    asked-ready (owed a.size a.top) (true, true) nan a.known a.x a.updated (lent) a.values.now c.requires (code c.refusal-asked.result) c.refusal-asked.ensures (not-refused c.refusal-asked.result c.in_default.not-Err) in
    let a = c.args in
    reads a.size a.top (lent) a.x a.updated (ready)

pub overflow_mul-a : goal.overflow_mul-a
overflow_mul-a h =
    let part-fits : h.args.x * h.args.size * 8 + h.args.size * 8 < 18446744073709551616 = omega (arith, h, h.requires.room.pos) in
    omega (arith, part-fits)

pub overflow_add-e : goal.overflow_add-e
overflow_add-e h =
    let part-fits : h.args.x * h.args.size * 8 + h.args.size * 8 < 18446744073709551616 = omega (arith, h, h.requires.room.pos) in
    omega (arith, part-fits)

pub record_all-run-requires : goal.record_all-run-requires
record_all-run-requires c =
    let lent : Cells = let a = c.args in cells a.figures.now a.extremes.now a.pos.now a.neg.now in
    let under : Head → Series = λ y. let a = c.args in let l = load a.size a.top (lent) a.x a.updated in record { head = y; pos = l.pos; neg = l.neg } in
    let ready : let a = c.args in Ready (exponential_store a.size a.top) (true, true) a.x a.updated (lent) =
    let a = c.args in
    asked-ready (owed a.size a.top) (true, true) nan a.known a.x a.updated (lent) a.values.now c.requires (code c.refusal-asked.result) c.refusal-asked.ensures (not-refused c.refusal-asked.result c.in_default.not-Err) in
    let a = c.args in
    subst (λ (y : Head). Sound a.size a.top (under y)) (sym c.head_of-head.ensures) (sound-there a.size a.top (lent) a.x a.updated (ready))

pub keep-requires : goal.keep-requires
keep-requires c =
    (c.requires.room.figures, c.requires.room.extremes)

pub returns : goal.returns
returns c =
    let lent : Cells = let a = c.args in cells a.figures.now a.extremes.now a.pos.now a.neg.now in
    let ready : let a = c.args in Ready (exponential_store a.size a.top) (true, true) a.x a.updated (lent) =
    let a = c.args in
    asked-ready (owed a.size a.top) (true, true) nan a.known a.x a.updated (lent) a.values.now c.requires (code c.refusal-asked.result) c.refusal-asked.ensures (not-refused c.refusal-asked.result c.in_default.not-Err) in
    let known : (i : ℕ) → fits binary64 (get_or c.args.values.now i nan) ≡ true = λ i. is_true (fits binary64 (get_or c.args.values.now i nan)) (c.shared_slice_known-1.given i) in
    let gone : Many Series = record { taken = c.record_all-run.result.taken; no = code c.record_all-run.result.end; left = record { head = c.record_all-run.result.head; pos = c.record_all-run.new.pos; neg = c.record_all-run.new.neg } } in
    let under : Head → Series = λ y. let a = c.args in let l = load a.size a.top (lent) a.x a.updated in record { head = y; pos = l.pos; neg = l.neg } in
    let all : let a = c.args in
    gone ≡ each (step a.size a.top) (load a.size a.top (lent) a.x a.updated) a.values.now =
    let a = c.args in
    c.record_all-run.ensures ∙ ap (λ (y : Head). each (step a.size a.top) (under y) a.values.now) c.head_of-head.ensures in
    let a = c.args in
    slot-ends (owed a.size a.top) histograms-steady (true, true) (slotted a.size a.top) a.x a.updated (lent) (ready)
    a.values.now (known) (gone) (all)
    (end a.size a.top (lent) a.x a.updated (gone) _ _ c.keep.ensures.figures_after c.keep.ensures.extremes_after)
    (kept_off a.size a.top (lent) a.x a.updated (gone) _ _ c.keep.ensures.figures_after c.keep.ensures.extremes_after)
    (kept_on a.size a.top (lent) a.x a.updated (gone) _ _ c.keep.ensures.figures_after c.keep.ensures.extremes_after)
