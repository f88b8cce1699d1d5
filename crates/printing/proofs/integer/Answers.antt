-- `printing::integer` meets its contract. Assumes nothing.
use mathlib.Core.Path.{sym, ap, ◌∙◌}
use mathlib.Core.List.{[], ◌∷◌}
use lib.IntN.{ℤ}
use mir.Syntax.{w32}
use mir.Val.{SFits}
use Rattle.std.specs.Prelude.{Option}
use Rattle.lines.specs.Gathered.{waiting}
use Rattle.lines.specs.Written.{signed}
use Rattle.lines.proofs.Gathering.{then, spelt}
use Rattle.lines.proofs.Signs.{wide_fits, wide_is}
use Rattle.printing.specs.Fields.{integer_field}
use borrow.Author.Rules.{rules}
use Rattle.printing.proofs.integer.Goals as goal

pub overflow_cast-i : goal.overflow_cast-i
overflow_cast-i c =
    let z : ℤ = c.in-Some.i in
    let f : SFits w32 z = search rules in
    wide_fits z f

pub returns-in-None : goal.returns-in-None
returns-in-None c =
    let a = c.args in
    let t = waiting a.n a.text.now in
    spelt (ap (λ (i : Option ℤ). 32 ∷ integer_field i) (sym c.in-None.is)) t
    (then (32 ∷ []) (45 ∷ []) t c.byte-m.ensures c.byte.ensures)

pub returns-in-Some : goal.returns-in-Some
returns-in-Some c =
    let a = c.args in
    let t = waiting a.n a.text.now in
    let f : SFits w32 c.in-Some.i = search rules in
    spelt (ap (λ (z : ℤ). 32 ∷ signed z) (wide_is c.in-Some.i f) ∙ ap (λ (i : Option ℤ). 32 ∷ integer_field i) (sym c.in-Some.is)) t
    (then (32 ∷ []) _ t c.byte-m.ensures c.signed.ensures)
