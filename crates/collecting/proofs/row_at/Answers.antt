-- `collecting::row_at` meets its contract. Assumes nothing.
use mathlib.Core.Path.{sym, ap, ◌∙◌}
use native.Mathlib.Omega.{arith}
use Rattle.sets.specs.Rows.{row_of}
use Rattle.directory.proofs.Checks.{set-named}
use Rattle.collecting.proofs.Handed.{row-empty}
use Rattle.collecting.proofs.row_at.Goals as goal

pub returns-then-x-eq0 : goal.returns-then-x-eq0
returns-then-x-eq0 c = row-empty c.args.sets.now c.args.x c.if-x-eq0.true

pub clean-requires : goal.clean-requires
clean-requires c = c.requires.1 (omega (arith, c.if-x-eq0.false))

pub returns : goal.returns
returns c =
    c.clean.ensures ∙ ap row_of (sym (set-named c.args.sets.now c.args.x (omega (arith, c.if-x-eq0.false))))
