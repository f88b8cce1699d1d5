-- `lines::output::signed` meets its contract. Assumes nothing.
use Prim.Native.Nat.{ℕ}
use mathlib.Core.Path.{ap, ◌∙◌}
use mathlib.Core.List.{List, [], ◌∷◌}
use Rattle.lines.specs.Gathered.{waiting, ◌behind◌}
use Rattle.lines.proofs.Gathering.{then}
use Rattle.lines.proofs.Signs.{above-fits, minus-fits, minus-natural, size_fits, minus-text, natural, natural-text}
use Rattle.lines.proofs.output.signed.Goals as goal

pub overflow_add-x : goal.overflow_add-x
overflow_add-x c = above-fits c.args.x c.ranges.x c.if-x-lt0.true

pub overflow_sub-x : goal.overflow_sub-x
overflow_sub-x c = minus-fits c.args.x c.ranges.x c.if-x-lt0.true

pub overflow_cast-x : goal.overflow_cast-x
overflow_cast-x c = minus-natural c.args.x c.ranges.x c.if-x-lt0.true

pub overflow_add-x-then-x-lt0 : goal.overflow_add-x-then-x-lt0
overflow_add-x-then-x-lt0 c = size_fits c.args.x c.ranges.x c.if-x-lt0.true

pub returns-then-x-lt0 : goal.returns-then-x-lt0
returns-then-x-lt0 c =
    then (45 ∷ []) _ (waiting c.args.n c.args.text.now) c.byte-m.ensures c.decimal.ensures
    ∙ ap (λ (ds : List ℕ). ds behind waiting c.args.n c.args.text.now) (minus-text c.args.x c.ranges.x c.if-x-lt0.true)

pub overflow_cast-x-2 : goal.overflow_cast-x-2
overflow_cast-x-2 c = natural c.args.x c.ranges.x c.if-x-lt0.false

pub returns : goal.returns
returns c =
    c.decimal-2.ensures
    ∙ ap (λ (ds : List ℕ). ds behind waiting c.args.n c.args.text.now) (natural-text c.args.x c.ranges.x c.if-x-lt0.false)
