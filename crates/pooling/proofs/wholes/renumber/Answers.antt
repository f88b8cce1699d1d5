-- `pooling::wholes::renumber` meets its contract. Assumes nothing.
use Prim.Native.Nat.{◌≤◌, ◌<◌}
use mathlib.Core.Path.{sym, ap, subst, ◌∙◌}
use mathlib.Core.List.{[]}
use lib.ListN.{length, get_or, set}
use Rattle.std.specs.Prelude.{Result}
use Rattle.refusals.specs.Refusals.{said}
use Rattle.refusals.specs.declared.Refusal.{Refusal}
use Rattle.refusals.proofs.Numbers.{passed-on}
use Rattle.integers.proofs.Range.{held}
use Rattle.listing.specs.declared.Cursor.{Cursor}
use Rattle.whole_listing.specs.Inner.{with_numbers}
use Rattle.pooling.specs.Entries.{Numberable, renumbered}
use Rattle.pooling.proofs.wholes.renumber.Goals as goal

pub slice_copy_out-with_numbers : goal.slice_copy_out-with_numbers
slice_copy_out-with_numbers c =
    let there : (c.args.k < length c.args.words.now) × (get_or (get_or c.args.words.now c.args.k []) 0 0 ≤ 1) = subst (λ (r : Result Cursor Refusal). Numberable c.args.k (said r) c.args.words.now) c.in_ok-next.was c.requires in
    (there).0

pub with_numbers-requires : goal.with_numbers-requires
with_numbers-requires c =
    let there : (c.args.k < length c.args.words.now) × (get_or (get_or c.args.words.now c.args.k []) 0 0 ≤ 1) = subst (λ (r : Result Cursor Refusal). Numberable c.args.k (said r) c.args.words.now) c.in_ok-next.was c.requires in
    (there).1

pub returns-in_err-next : goal.returns-in_err-next
returns-in_err-next c =
    let a = c.args in (
      passed-on c.from_residual.result c.in_err-next.field-0.0 c.from_residual.ensures.1 ∙ sym c.in_err-next.was,
      ap (λ (q : Result Cursor Refusal). renumbered a.k a.min a.max a.sum (said q) a.words.now) (sym c.in_err-next.was),
    )

pub returns : goal.returns
returns c =
    let a = c.args in (
      sym c.in_ok-next.was,
      ap (set a.words.now a.k)
          (c.with_numbers.ensures ∙ ap (with_numbers (get_or a.words.now a.k []) a.min a.max) (held a.sum c.ranges.sum))
          ∙ ap (λ (q : Result Cursor Refusal). renumbered a.k a.min a.max a.sum (said q) a.words.now) (sym c.in_ok-next.was),
    )
