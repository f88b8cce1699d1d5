-- `text::numbers::signed` meets its contract. Assumes nothing.
use Rattle.std.proofs.Common.{◌-◌, ◌≤◌, length, drop, sym, ap, ◌∙◌, arith, length-drop, take_all}
use Rattle.laws.proofs.Bools.{pick_true, pick-false}
use Rattle.text.specs.Numbers.{decimal_of, with_minus, without_minus, signed_of}
use Rattle.text.proofs.Spelling.{minus-length}
use Rattle.text.proofs.numbers.signed.Goals as goal

pub slice_bounds-decimal-count : goal.slice_bounds-decimal-count
slice_bounds-decimal-count c = minus-length c.args.bytes.now (sym c.has_minus.ensures ∙ c.if-has_minus.true)

pub slice_bounds-decimal-start : goal.slice_bounds-decimal-start
slice_bounds-decimal-start c = minus-length c.args.bytes.now (sym c.has_minus.ensures ∙ c.if-has_minus.true)

pub returns-then-has_minus : goal.returns-then-has_minus
unfolding signed_of
returns-then-has_minus c =
    let l : length (drop 1 c.args.bytes.now) ≤ length c.args.bytes.now - 1 = omega (arith, length-drop 1 c.args.bytes.now) in
    c.with_minus.ensures
    ∙ ap with_minus (c.decimal.ensures ∙ ap decimal_of (take_all (length c.args.bytes.now - 1) (drop 1 c.args.bytes.now) l))
    ∙ sym (pick_true _ _ _ (sym c.has_minus.ensures ∙ c.if-has_minus.true))

pub returns : goal.returns
unfolding signed_of
returns c =
    c.without_minus.ensures ∙ ap without_minus c.decimal-2.ensures ∙ sym (pick-false _ _ _ (sym c.has_minus.ensures ∙ c.if-has_minus.false))
