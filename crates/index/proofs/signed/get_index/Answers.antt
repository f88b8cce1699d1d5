-- `index::signed::get_index` meets its contract. Assumes nothing.
use mathlib.Core.Path.{◌≡◌, sym, ap, ◌∙◌, subst}
use lib.Dec.{T}
use mir.Syntax.{w32}
use mir.ValLaws.{to_z-of_z}
use lib.Ieee.{binary64, fits}
use Rattle.index.specs.Signed.{level_answer}
use Rattle.index.specs.Inner.{bin_index}
use Rattle.index.proofs.Values.{no-scale, from-bin}
use Rattle.index.proofs.signed.get_index.Goals as goal

pub returns-in-None : goal.returns-in-None
returns-in-None c =
    let told : level_answer c.args.scale ≡ c.level_of-found.result = ap level_answer (sym (to_z-of_z w32 c.args.scale c.ranges.scale)) ∙ sym c.level_of-found.ensures in
    sym (no-scale c.args.v c.args.scale (told ∙ c.in-None.is))

pub returns-in-Some : goal.returns-in-Some
returns-in-Some c =
    let held : T (fits binary64 c.args.v) = subst T (sym c.well_formed.0.1) tt in
    let told : level_answer c.args.scale ≡ c.level_of-found.result = ap level_answer (sym (to_z-of_z w32 c.args.scale c.ranges.scale)) ∙ sym c.level_of-found.ensures in
    c.signed_bin.ensures
    ∙ ap (bin_index c.in-Some.level) c.get_bin.ensures
    ∙ sym (from-bin c.args.v c.args.scale c.in-Some.level held (told ∙ c.in-Some.is))
