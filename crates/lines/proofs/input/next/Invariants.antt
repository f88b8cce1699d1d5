-- `lines::input::next` meets its contract, and ends: the turns are counted. Assumes nothing.
use mathlib.Core.Path.{◌≡◌}
use mathlib.Core.Bool.{true}
use mathlib.Core.Logic.{◌⊎◌}
use Rattle.lines.specs.Reading.{Within}
use Rattle.lines.proofs.input.next.Given as goal

abbrev pub invariant-loop : goal.invariant-loop
invariant-loop l =
    Within l.now.at l.now.end l.now.len
    × ((l.now.waiting ≡ l.initial.now.waiting) ⊎ (l.now.waiting ≡ 0))
    × (l.initial.now.ended ≡ true → (l.now ≡ l.initial.now) × (l.line ≡ l.initial.line) × (l.block ≡ l.initial.block))
