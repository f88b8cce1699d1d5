-- `slot::agrees` meets its contract. Assumes nothing.
use mathlib.Core.Path.{◌≡◌, sym, ap, ◌∙◌}
use mathlib.Core.Bool.{true}
use mathlib.Core.List.{List, [], ◌∷◌}
use lib.Ieee.{Float}
use Rattle.floats.specs.Starts.{zero_float}
use Rattle.exponential.specs.declared.Head.{Head}
use Rattle.exponential.specs.Series as Series
use Rattle.exponential_slots.specs.Cells.{readable, head_in}
use Rattle.exponential_slots.proofs.Cases.{reads_held, head-held}
use Rattle.exponential_slots.proofs.Agreeing.{Accepted, accepted-of}
use Rattle.value_map.proofs.ExponentialOwes.{unset-valid}
use Rattle.exponential_whole_batches.proofs.AtSlot.{there-is, there-not, there-none}
use Rattle.exponential_whole_batches.proofs.slot.agrees.Goals as goal

abbrev zeros : List Float
zeros = zero_float ∷ zero_float ∷ zero_float ∷ []

pub returns-then-known : goal.returns-then-known
returns-then-known c = sym (c.requires.neg_value c.if-known.true)

pub returns-then-not-updated : goal.returns-then-not-updated
returns-then-not-updated c =
    let a = c.args in
    there-none a.size a.top a.f a.pos.now a.neg.now a.updated (c.if-not-updated.true)

pub returns-then-not-can_read : goal.returns-then-not-can_read
returns-then-not-can_read c =
    let ok : Accepted c.args.size c.args.top = accepted-of c.args.size c.args.top (unset-valid c.args.size c.args.top c.requires.top_value.0) in
    let held : c.args.updated ≡ true = c.if-not-updated.false in
    let a = c.args in
    there-not a.size a.top (ok) a.f a.pos.now a.neg.now c.requires.top_value.1 c.requires.top_value.2 a.updated (held)
    (sym (reads_held a.updated a.f (held)) ∙ sym c.can_read.ensures ∙ c.if-not-can_read.true)

pub head_of-h-requires : goal.head_of-h-requires
head_of-h-requires c =
    let can : (let a = c.args in readable a.updated a.f ≡ true) = sym c.can_read.ensures ∙ c.if-not-can_read.false in
    can

pub returns : goal.returns
unfolding head_in
returns c =
    let held : c.args.updated ≡ true = c.if-not-updated.false in
    let ok : Accepted c.args.size c.args.top = accepted-of c.args.size c.args.top (unset-valid c.args.size c.args.top c.requires.top_value.0) in
    let can : (let a = c.args in readable a.updated a.f ≡ true) = sym c.can_read.ensures ∙ c.if-not-can_read.false in
    let a = c.args in
    c.counts_agree.ensures
    ∙ ap (λ (g : Head). Series.agrees a.size a.top g.counts a.pos.now a.neg.now)
    (c.head_of-h.ensures ∙ head-held a.top a.updated a.f zeros (held))
    ∙ there-is a.size a.top (ok) a.f a.pos.now a.neg.now c.requires.top_value.1 c.requires.top_value.2 a.updated (held)
    (sym (reads_held a.updated a.f (held)) ∙ can)
