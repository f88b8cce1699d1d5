-- `exponential_whole_collection::slot::agrees_at` meets its contract. Assumes nothing.
use mathlib.Core.Path.{◌≡◌, refl, sym, ap, ◌∙◌}
use mathlib.Core.Bool.{true}
use mathlib.Core.List.{[]}
use lib.ListN.{get_or}
use Rattle.rows.specs.Parts.{part_at}
use Rattle.exponential_wholes.specs.declared.Head.{Head}
use Rattle.exponential.specs.Series as S
use Rattle.exponential_slots.specs.Cells.{counts_in, narrow}
use Rattle.exponential_slots.proofs.Cases.{reads_held}
use Rattle.exponential_whole_slots.specs.Cells.{Cells, cells, head_in}
use Rattle.exponential_whole_slots.proofs.Cases.{head-held}
use Rattle.exponential_whole_collection.proofs.Slots.{unread, by-counts}
use Rattle.exponential_whole_collection.proofs.slot.agrees_at.Goals as goal

pub returns-then-not-can_read : goal.returns-then-not-can_read
returns-then-not-can_read c =
    let lent : Cells = let a = c.args in cells a.figures.now a.extremes.now a.pos.now a.neg.now in
    let a = c.args in
    unread a.size a.top c.requires.0 (lent) a.x c.requires.1
    (sym (reads_held true _ refl) ∙ sym c.can_read.ensures ∙ c.if-not-can_read.true)

pub head_of-head-requires : goal.head_of-head-requires
head_of-head-requires c =
    let lent : Cells = let a = c.args in cells a.figures.now a.extremes.now a.pos.now a.neg.now in
    let can : narrow (get_or (lent).figures c.args.x []) ≡ true = sym (reads_held true _ refl) ∙ sym c.can_read.ensures ∙ c.if-not-can_read.false in
    reads_held true _ refl ∙ can

pub returns : goal.returns
returns c =
    let lent : Cells = let a = c.args in cells a.figures.now a.extremes.now a.pos.now a.neg.now in
    let head-is : c.head_of-head.result
    ≡ head_in (counts_in (get_or (lent).figures c.args.x [])) (get_or (lent).extremes c.args.x []) = c.head_of-head.ensures ∙ head-held _ true _ _ refl in
    let counts-are : c.counts_agree.result
    ≡ S.agrees c.args.size c.args.top (counts_in (get_or (lent).figures c.args.x []))
    (part_at c.args.size (lent).pos c.args.x) (part_at c.args.size (lent).neg c.args.x) =
    let a = c.args in
    c.counts_agree.ensures
    ∙ ap (λ (h : Head). S.agrees a.size a.top h.counts (part_at a.size (lent).pos a.x) (part_at a.size (lent).neg a.x)) (head-is) in
    let can : narrow (get_or (lent).figures c.args.x []) ≡ true = sym (reads_held true _ refl) ∙ sym c.can_read.ensures ∙ c.if-not-can_read.false in
    let read : narrow (get_or (lent).figures c.args.x []) ≡ true = can in
    let a = c.args in
    counts-are ∙ by-counts a.size a.top c.requires.0 (lent) a.x c.requires.1 (read)
