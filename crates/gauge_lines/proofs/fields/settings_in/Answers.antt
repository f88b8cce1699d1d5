-- `gauge_lines::fields::settings_in` meets its contract. Assumes nothing.
use mathlib.Core.Path.{◌≡◌, refl, sym, ap, ◌∙◌}
use borrow.Author.Rules.{rules}
use borrow.Author.Tests.{le-leb, lt-leb}
use Rattle.laws.proofs.Bools.{pick_true, pick-false}
use Rattle.text.specs.Fields.{spaces_of, field_of}
use Rattle.text.specs.Numbers.{decimal_of, signed_of}
use lib.IntN.{ℤ}
use mir.Syntax.{w32}
use mir.Val.{SFits}
use mir.ValLaws.{to_z-of_z}
use Rattle.std.specs.Prelude.{Option, Some}
use Rattle.gauge_lines.specs.declared.fields.Wanted.{Wanted}
use Rattle.gauge_lines.specs.Lines.{size_in, scale_in}
use Rattle.gauge_lines.proofs.Asking.{settings-none, settings-are}
use Rattle.gauge_lines.proofs.fields.settings_in.Goals as goal

pub returns-then-spaces-ne4 : goal.returns-then-spaces-ne4
returns-then-spaces-ne4 c =
    settings-none c.args.line.now (λ e. c.if-spaces-ne4.true (c.spaces.ensures ∙ e))

pub returns-in_err-size : goal.returns-in_err-size
returns-in_err-size c =
    let bs = c.args.line.now in
    let four : spaces_of bs ≡ 4 = sym c.spaces.ensures ∙ c.if-spaces-ne4.false in
    let size : size_in (decimal_of (field_of bs 1)) ≡ c.size_of.result = sym (c.size_of.ensures ∙ ap size_in c.decimal_at.ensures) in
    c.from_residual.ensures ∙ settings-are bs (four) _ _ _ _ (size ∙ c.in_err-size.was) refl refl refl

pub returns-in_err-scale : goal.returns-in_err-scale
returns-in_err-scale c =
    let bs = c.args.line.now in
    let four : spaces_of bs ≡ 4 = sym c.spaces.ensures ∙ c.if-spaces-ne4.false in
    let size : size_in (decimal_of (field_of bs 1)) ≡ c.size_of.result = sym (c.size_of.ensures ∙ ap size_in c.decimal_at.ensures) in
    let scale : scale_in (signed_of (field_of bs 2)) ≡ c.scale_of.result = sym (c.scale_of.ensures ∙ ap scale_in c.signed_at.ensures) in
    c.from_residual-in_err-scale.ensures ∙ settings-are bs (four) _ _ _ _ (size ∙ c.in_ok-size.was) (scale ∙ c.in_err-scale.was) refl refl

pub returns-in_err-limit : goal.returns-in_err-limit
returns-in_err-limit c =
    let bs = c.args.line.now in
    let four : spaces_of bs ≡ 4 = sym c.spaces.ensures ∙ c.if-spaces-ne4.false in
    let size : size_in (decimal_of (field_of bs 1)) ≡ c.size_of.result = sym (c.size_of.ensures ∙ ap size_in c.decimal_at.ensures) in
    let scale : scale_in (signed_of (field_of bs 2)) ≡ c.scale_of.result = sym (c.scale_of.ensures ∙ ap scale_in c.signed_at.ensures) in
    c.from_residual-in_err-limit.ensures
    ∙ settings-are bs (four) _ _ _ _ (size ∙ c.in_ok-size.was) (scale ∙ c.in_ok-scale.was) (sym c.decimal_at-2.ensures ∙ c.in_err-limit.was) refl

pub returns-in_err-start : goal.returns-in_err-start
returns-in_err-start c =
    let bs = c.args.line.now in
    let four : spaces_of bs ≡ 4 = sym c.spaces.ensures ∙ c.if-spaces-ne4.false in
    let size : size_in (decimal_of (field_of bs 1)) ≡ c.size_of.result = sym (c.size_of.ensures ∙ ap size_in c.decimal_at.ensures) in
    let scale : scale_in (signed_of (field_of bs 2)) ≡ c.scale_of.result = sym (c.scale_of.ensures ∙ ap scale_in c.signed_at.ensures) in
    c.from_residual-in_err-start.ensures
    ∙ settings-are bs (four) _ _ _ _ (size ∙ c.in_ok-size.was) (scale ∙ c.in_ok-scale.was) (sym c.decimal_at-2.ensures ∙ c.in_ok-limit.was)
    (sym c.decimal_at-3.ensures ∙ c.in_err-start.was)

pub returns-then-limit-gt-MOST_LIMIT : goal.returns-then-limit-gt-MOST_LIMIT
returns-then-limit-gt-MOST_LIMIT c =
    let bs = c.args.line.now in
    let four : spaces_of bs ≡ 4 = sym c.spaces.ensures ∙ c.if-spaces-ne4.false in
    let size : size_in (decimal_of (field_of bs 1)) ≡ c.size_of.result = sym (c.size_of.ensures ∙ ap size_in c.decimal_at.ensures) in
    let scale : scale_in (signed_of (field_of bs 2)) ≡ c.scale_of.result = sym (c.scale_of.ensures ∙ ap scale_in c.signed_at.ensures) in
    let last = settings-are bs (four) _ _ _ _ (size ∙ c.in_ok-size.was) (scale ∙ c.in_ok-scale.was) (sym c.decimal_at-2.ensures ∙ c.in_ok-limit.was)
    (sym c.decimal_at-3.ensures ∙ c.in_ok-start.was) in
    sym (pick-false _ _ _ (lt-leb _ 30 c.if-limit-gt-MOST_LIMIT.true)) ∙ last

pub returns : goal.returns
returns c =
    let bs = c.args.line.now in
    let four : spaces_of bs ≡ 4 = sym c.spaces.ensures ∙ c.if-spaces-ne4.false in
    let size : size_in (decimal_of (field_of bs 1)) ≡ c.size_of.result = sym (c.size_of.ensures ∙ ap size_in c.decimal_at.ensures) in
    let scale : scale_in (signed_of (field_of bs 2)) ≡ c.scale_of.result = sym (c.scale_of.ensures ∙ ap scale_in c.signed_at.ensures) in
    let last = settings-are bs (four) _ _ _ _ (size ∙ c.in_ok-size.was) (scale ∙ c.in_ok-scale.was) (sym c.decimal_at-2.ensures ∙ c.in_ok-limit.was)
    (sym c.decimal_at-3.ensures ∙ c.in_ok-start.was) in
    let f : SFits w32 c.in_ok-scale.scale = search rules in
    let w : ℤ → Option Wanted = λ x. Some (record {
      size = c.in_ok-size.size;
      scale = x;
      limit = c.in_ok-limit.limit;
      start = c.in_ok-start.start;
    }) in
    ap w (to_z-of_z w32 c.in_ok-scale.scale f) ∙ sym (pick_true _ _ _ (le-leb _ 30 c.if-limit-gt-MOST_LIMIT.false)) ∙ last
