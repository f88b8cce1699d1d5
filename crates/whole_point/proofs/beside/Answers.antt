-- `beside` meets its contract. Assumes nothing.
use mathlib.Core.Path.{sym, ap, ◌∙◌}
use Rattle.whole_point.specs.Handing.{beside_number}
use Rattle.whole_point.proofs.Call.{beside-size, beside-agree, beside-else}
use Rattle.whole_point.proofs.beside.Goals as goal

pub returns-in-1 : goal.returns-in-1
returns-in-1 g c = beside-size ∙ sym (ap beside_number (sym c.code.ensures ∙ c.in-1.is))

pub returns-in-8 : goal.returns-in-8
returns-in-8 g c = beside-agree ∙ sym (ap beside_number (sym c.code.ensures ∙ c.in-8.is))

pub returns-in_default : goal.returns-in_default
returns-in_default g c = beside-else _ c.in_default.in_default-own.rest.0.1 c.in_default.in_default-own.rest.1 ∙ ap beside_number c.code.ensures
