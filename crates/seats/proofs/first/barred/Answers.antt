-- `seats::first::barred` meets its contract. Assumes nothing.
use mathlib.Core.Path.{◌≡◌, sym, ◌∙◌}
use mathlib.Core.Bool.{Bool, true, ◌&&◌}
use lib.Dec.{eqb}
use Rattle.seats.proofs.Bars.{unset-refused, unset-fine, first-not, second-not, both-are, bar_12, bar_6, bar_5, bar_8, bar_0}
use Rattle.numbered.specs.Numbered.{code_by}
use Rattle.seats.proofs.first.barred.Goals as goal

pub returns-then-not-lent : goal.returns-then-not-lent
returns-then-not-lent g c =
    let ok : Bool = eqb (code_by g.E.Numbered.number c.args.unset) 0 && c.args.accepted in
    sym (bar_12 c.args.lent c.args.value c.args.attributes (ok) c.if-not-lent.true)

pub returns-then-not-value : goal.returns-then-not-value
returns-then-not-value g c =
    let ok : Bool = eqb (code_by g.E.Numbered.number c.args.unset) 0 && c.args.accepted in
    let lent : c.args.lent ≡ true = c.if-not-lent.false in
    sym (bar_6 c.args.lent c.args.value c.args.attributes (ok) (lent) c.if-not-value.true)

pub returns-then-attributes-gt-MOST_ATTRIBUTES : goal.returns-then-attributes-gt-MOST_ATTRIBUTES
returns-then-attributes-gt-MOST_ATTRIBUTES g c =
    let ok : Bool = eqb (code_by g.E.Numbered.number c.args.unset) 0 && c.args.accepted in
    let lent : c.args.lent ≡ true = c.if-not-lent.false in
    let value : c.args.value ≡ true = c.if-not-value.false in
    sym (bar_5 c.args.lent c.args.value c.args.attributes (ok) (lent) (value) c.if-attributes-gt-MOST_ATTRIBUTES.true)

pub returns-then-is_err : goal.returns-then-is_err
returns-then-is_err g c =
    let ok : Bool = eqb (code_by g.E.Numbered.number c.args.unset) 0 && c.args.accepted in
    let lent : c.args.lent ≡ true = c.if-not-lent.false in
    let value : c.args.value ≡ true = c.if-not-value.false in
    let k = first-not (eqb (code_by g.E.Numbered.number c.args.unset) 0) c.args.accepted (unset-refused g.E.Numbered.number g.met.E.Reason.refuses c.args.unset (sym c.is_err.ensures.value ∙ c.if-is_err.true)) in
    sym (bar_8 c.args.lent c.args.value c.args.attributes (ok) (lent) (value) c.if-attributes-gt-MOST_ATTRIBUTES.false k)

pub returns-then-not-accepted : goal.returns-then-not-accepted
returns-then-not-accepted g c =
    let set : eqb (code_by g.E.Numbered.number c.args.unset) 0 ≡ true = unset-fine g.E.Numbered.number c.args.unset (sym c.is_err.ensures.value ∙ c.if-is_err.false) in
    let ok : Bool = eqb (code_by g.E.Numbered.number c.args.unset) 0 && c.args.accepted in
    let lent : c.args.lent ≡ true = c.if-not-lent.false in
    let value : c.args.value ≡ true = c.if-not-value.false in
    let k = second-not (eqb (code_by g.E.Numbered.number c.args.unset) 0) c.args.accepted (set) c.if-not-accepted.true in
    sym (bar_8 c.args.lent c.args.value c.args.attributes (ok) (lent) (value) c.if-attributes-gt-MOST_ATTRIBUTES.false k)

pub returns : goal.returns
returns g c =
    let set : eqb (code_by g.E.Numbered.number c.args.unset) 0 ≡ true = unset-fine g.E.Numbered.number c.args.unset (sym c.is_err.ensures.value ∙ c.if-is_err.false) in
    let ok : Bool = eqb (code_by g.E.Numbered.number c.args.unset) 0 && c.args.accepted in
    let lent : c.args.lent ≡ true = c.if-not-lent.false in
    let value : c.args.value ≡ true = c.if-not-value.false in
    let k = both-are (eqb (code_by g.E.Numbered.number c.args.unset) 0) c.args.accepted (set) c.if-not-accepted.false in
    sym (bar_0 c.args.lent c.args.value c.args.attributes (ok) (lent) (value) c.if-attributes-gt-MOST_ATTRIBUTES.false k)
