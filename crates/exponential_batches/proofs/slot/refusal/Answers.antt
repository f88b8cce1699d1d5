-- `exponential_batches::slot::refusal` meets its contract. Assumes nothing.
use mathlib.Core.Path.{◌≡◌, sym, ap, ◌∙◌}
use mathlib.Core.Bool.{true}
use mathlib.Core.List.{[]}
use lib.ListN.{get_or}
use Rattle.laws.proofs.Bools.{pick_true}
use Rattle.rows.specs.Parts.{part_at}
use Rattle.exponential.specs.declared.Head.{Head}
use Rattle.exponential.specs.Series.{refusal_of}
use Rattle.exponential_slots.specs.Cells.{Cells, cells, readable}
use Rattle.exponential_batches.proofs.AtSlot.{asked-unread, asked-read}
use Rattle.exponential_batches.proofs.slot.refusal.Goals as goal

pub returns-then-known : goal.returns-then-known
returns-then-known c = sym (pick_true c.args.known 0 _ c.if-known.true)

pub returns-then-not-can_read : goal.returns-then-not-can_read
returns-then-not-can_read c =
    let lent : Cells = let a = c.args in cells a.figures.now a.extremes.now a.pos.now a.neg.now in
    let a = c.args in
    asked-unread a.size a.top (lent) a.x a.updated a.v a.known c.if-known.false (sym c.can_read.ensures ∙ c.if-not-can_read.true)

pub head_of-head-requires : goal.head_of-head-requires
head_of-head-requires c =
    let lent : Cells = let a = c.args in cells a.figures.now a.extremes.now a.pos.now a.neg.now in
    let can : readable c.args.updated (get_or (lent).figures c.args.x []) ≡ true = sym c.can_read.ensures ∙ c.if-not-can_read.false in
    can

pub returns : goal.returns
returns c =
    let lent : Cells = let a = c.args in cells a.figures.now a.extremes.now a.pos.now a.neg.now in
    let can : readable c.args.updated (get_or (lent).figures c.args.x []) ≡ true = sym c.can_read.ensures ∙ c.if-not-can_read.false in
    let a = c.args in
    c.refusal.ensures
    ∙ ap (λ (y : Head). refusal_of a.size a.top y (part_at a.size (lent).pos a.x) (part_at a.size (lent).neg a.x) a.v) c.head_of-head.ensures
    ∙ asked-read a.size a.top (lent) a.x a.updated a.v a.known c.if-known.false (can)
