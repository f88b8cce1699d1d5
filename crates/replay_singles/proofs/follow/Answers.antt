-- `replay_singles::follow` meets its contract. Assumes nothing.
use mathlib.Core.Path.{◌≡◌, sym, ◌∙◌}
use mathlib.Core.Bool.{true, false}
use Rattle.replay_state.specs.After.{single}
use Rattle.replay_state.proofs.Lines.{follows-none, follows-n, follows-r, follows-h, follows-b-u, follows-other}
use Rattle.replay_singles.proofs.follow.Goals as goal

pub returns-then-not-is_single : goal.returns-then-not-is_single
returns-then-not-is_single c =
    let of_others : single c.args.s.of ≡ false = sym c.is_single.ensures ∙ c.if-not-is_single.true in
    follows-none _ _ _ _ _ _ (of_others)

pub returns-in-110 : goal.returns-in-110
returns-in-110 c =
    let of-these : single c.args.s.of ≡ true = sym c.is_single.ensures ∙ c.if-not-is_single.false in
    c.configure.ensures ∙ follows-n _ _ _ _ _ _ (of-these) c.in-110.is

pub returns-in-114 : goal.returns-in-114
returns-in-114 c =
    let of-these : single c.args.s.of ≡ true = sym c.is_single.ensures ∙ c.if-not-is_single.false in
    c.measure.ensures ∙ follows-r _ _ _ _ _ _ (of-these) c.in-114.is

pub returns-in-104 : goal.returns-in-104
returns-in-104 c =
    let of-these : single c.args.s.of ≡ true = sym c.is_single.ensures ∙ c.if-not-is_single.false in
    c.measure_by.ensures ∙ follows-h _ _ _ _ _ _ (of-these) c.in-104.is

pub returns-in-98 : goal.returns-in-98
returns-in-98 c =
    let of-these : single c.args.s.of ≡ true = sym c.is_single.ensures ∙ c.if-not-is_single.false in
    c.bind.ensures ∙ follows-b-u _ _ _ _ _ _ (of-these) c.in-98.is

pub returns-in_default : goal.returns-in_default
returns-in_default c =
    let of-these : single c.args.s.of ≡ true = sym c.is_single.ensures ∙ c.if-not-is_single.false in
    follows-other _ _ _ _ _ _ (of-these) c.in_default.in_default-own.rest.0.0.0.1 c.in_default.in_default-own.rest.0.0.1 c.in_default.in_default-own.rest.0.1 c.in_default.in_default-own.rest.1
