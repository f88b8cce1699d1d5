-- `text::numbers::bits` meets its contract. Assumes nothing.
use Rattle.std.proofs.Common.{Some, length, sym, ap, ◌∙◌, eq-eqb, ne_eqb}
use Rattle.laws.proofs.Bools.{pick_true, pick-false}
use Rattle.text.specs.Numbers.{bits_of}
use Rattle.text.proofs.Pairing.{hex-none, bits-joined}
use Rattle.text.proofs.numbers.bits.Goals as goal

pub returns-then-bytes-ne16 : goal.returns-then-bytes-ne16
unfolding bits_of
returns-then-bytes-ne16 c = sym (pick-false _ _ _ (ne_eqb (length c.args.bytes.now) 16 c.if-bytes-ne16.true))

pub pairs-requires : goal.pairs-requires
pairs-requires c = (c.if-bytes-ne16.false, sym c.are_hex.ensures ∙ c.if-are_hex.true)

pub returns-then-are_hex : goal.returns-then-are_hex
unfolding bits_of
returns-then-are_hex c =
    ap Some c.joined.ensures
    ∙ sym (bits-joined c.args.bytes.now c.pairs.result (sym c.are_hex.ensures ∙ c.if-are_hex.true) c.if-bytes-ne16.false c.pairs.ensures)
    ∙ sym (pick_true _ _ _ (eq-eqb (length c.args.bytes.now) 16 c.if-bytes-ne16.false))

pub returns : goal.returns
unfolding bits_of
returns c =
    sym (hex-none 0 c.args.bytes.now (sym c.are_hex.ensures ∙ c.if-are_hex.false)) ∙ sym (pick_true _ _ _ (eq-eqb (length c.args.bytes.now) 16 c.if-bytes-ne16.false))
