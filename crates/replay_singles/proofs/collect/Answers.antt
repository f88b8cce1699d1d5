-- `replay_singles::collect` meets its contract. Assumes nothing.
use mathlib.Core.Path.{◌≡◌, sym, ◌∙◌}
use mathlib.Core.Bool.{true, false}
use borrow.Author.Tests.{eq-eqb, ne_eqb}
use Rattle.replay_state.specs.After.{single}
use Rattle.replay_state.proofs.Lines.{collects-none, collects-other, collects_delta, collects-cumulative}
use Rattle.replay_singles.proofs.collect.Goals as goal

pub returns-then-not-is_single : goal.returns-then-not-is_single
returns-then-not-is_single c =
    let of_others : single c.args.s.of ≡ false = sym c.is_single.ensures ∙ c.if-not-is_single.true in
    collects-none _ _ _ (of_others)

pub returns-then-s-ne99 : goal.returns-then-s-ne99
returns-then-s-ne99 c =
    let of-these : single c.args.s.of ≡ true = sym c.is_single.ensures ∙ c.if-not-is_single.false in
    collects-other _ _ _ (of-these) (ne_eqb _ _ c.if-s-ne99.true)

pub returns-then-s : goal.returns-then-s
returns-then-s c =
    let of-these : single c.args.s.of ≡ true = sym c.is_single.ensures ∙ c.if-not-is_single.false in
    c.delta.ensures ∙ collects_delta _ _ _ (of-these) (eq-eqb _ _ c.if-s-ne99.false) c.if-s.true

pub returns : goal.returns
returns c =
    let of-these : single c.args.s.of ≡ true = sym c.is_single.ensures ∙ c.if-not-is_single.false in
    c.cumulative.ensures ∙ collects-cumulative _ _ _ (of-these) (eq-eqb _ _ c.if-s-ne99.false) c.if-s.false
