-- `gauge_lines::fields::board_in` meets its contract. Assumes nothing.
use Prim.Native.Nat.{ℕ}
use mathlib.Core.Path.{◌≡◌, refl, sym, ap, ◌∙◌}
use mathlib.Core.List.{List}
use mathlib.Core.Bool.{true}
use Rattle.lines.specs.Spelled.{spelled, told}
use Rattle.gauge_lines.specs.Lines.{parted, set_in, attributes_in}
use Rattle.gauge_lines.proofs.Asking.{short, joined, apart, rest-is, board-none, kept-none, board-is, kept-are}
use Rattle.gauge_lines.proofs.fields.board_in.Goals as goal

pub returns-then-line-lt20 : goal.returns-then-line-lt20
returns-then-line-lt20 c =
    let a = c.args in
    let p = short a.line.now c.if-line-lt20.true in record { value = board-none a.line.now p; attrs_after = kept-none a.line.now a.attrs.now p }

pub returns-then-line-ne32 : goal.returns-then-line-ne32
returns-then-line-ne32 c =
    let a = c.args in
    let p = joined a.line.now c.if-line-lt20.false c.if-line-ne32.true in record { value = board-none a.line.now p; attrs_after = kept-none a.line.now a.attrs.now p }

pub returns-in_err-many : goal.returns-in_err-many
returns-in_err-many c =
    let bs = c.args.line.now in
    let parts : parted bs ≡ true = apart bs c.if-line-lt20.false c.if-line-ne32.false in
    let set : set_in bs ≡ c.read.result = sym (c.read.ensures.value ∙ ap (λ (u : List ℕ). told 0 (spelled u)) (rest-is bs)) in
    let attributes : c.read.new.attrs ≡ attributes_in bs c.args.attrs.now = c.read.ensures.attrs_after ∙ kept-are bs c.args.attrs.now (parts) in
    record { value = c.from_residual.ensures ∙ board-is bs (parts) _ _ (set ∙ c.in_err-many.was) refl; attrs_after = attributes }

pub returns-in_err-bits : goal.returns-in_err-bits
returns-in_err-bits c =
    let bs = c.args.line.now in
    let parts : parted bs ≡ true = apart bs c.if-line-lt20.false c.if-line-ne32.false in
    let set : set_in bs ≡ c.read.result = sym (c.read.ensures.value ∙ ap (λ (u : List ℕ). told 0 (spelled u)) (rest-is bs)) in
    let attributes : c.read.new.attrs ≡ attributes_in bs c.args.attrs.now = c.read.ensures.attrs_after ∙ kept-are bs c.args.attrs.now (parts) in
    record { value = c.from_residual-in_err-bits.ensures ∙ board-is bs (parts) _ _ (set ∙ c.in_ok-many.was) (sym c.bits.ensures ∙ c.in_err-bits.was); attrs_after = attributes }

pub returns : goal.returns
returns c =
    let bs = c.args.line.now in
    let parts : parted bs ≡ true = apart bs c.if-line-lt20.false c.if-line-ne32.false in
    let set : set_in bs ≡ c.read.result = sym (c.read.ensures.value ∙ ap (λ (u : List ℕ). told 0 (spelled u)) (rest-is bs)) in
    let attributes : c.read.new.attrs ≡ attributes_in bs c.args.attrs.now = c.read.ensures.attrs_after ∙ kept-are bs c.args.attrs.now (parts) in
    record { value = board-is bs (parts) _ _ (set ∙ c.in_ok-many.was) (sym c.bits.ensures ∙ c.in_ok-bits.was); attrs_after = attributes }
