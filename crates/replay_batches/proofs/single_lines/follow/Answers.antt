-- `replay_batches::single_lines::follow` meets its contract. Assumes nothing.
use mathlib.Core.Path.{◌≡◌, sym, ◌∙◌}
use mathlib.Core.Bool.{true, false}
use Rattle.replay_state.specs.After.{single}
use Rattle.replay_batches.proofs.Calls.{batches-none, batches-set, batches-handle, batches-other}
use Rattle.replay_batches.proofs.single_lines.follow.Goals as goal

pub returns-then-not-is_single : goal.returns-then-not-is_single
returns-then-not-is_single c =
    let of_others : single c.args.s.of ≡ false = sym c.is_single.ensures ∙ c.if-not-is_single.true in
    batches-none _ _ _ (of_others)

pub returns-in-82 : goal.returns-in-82
returns-in-82 c =
    let of-these : single c.args.s.of ≡ true = sym c.is_single.ensures ∙ c.if-not-is_single.false in
    c.measure_all.ensures ∙ batches-set _ _ _ (of-these) c.in-82.is

pub returns-in-72 : goal.returns-in-72
returns-in-72 c =
    let of-these : single c.args.s.of ≡ true = sym c.is_single.ensures ∙ c.if-not-is_single.false in
    c.measure_all_by.ensures ∙ batches-handle _ _ _ (of-these) c.in-72.is

pub returns-in_default : goal.returns-in_default
returns-in_default c =
    let of-these : single c.args.s.of ≡ true = sym c.is_single.ensures ∙ c.if-not-is_single.false in
    batches-other _ _ _ (of-these) c.in_default.in_default-own.rest.0.1 c.in_default.in_default-own.rest.1
