-- `sheet::digits::digit` meets its contract. Assumes nothing.
use Rattle.sheet.proofs.Hex.{below-digits, a-decimal, between-digits, a-letter, above-digits}
use Rattle.sheet.proofs.digits.digit.Goals as goal

pub returns-then-byte-lt48 : goal.returns-then-byte-lt48
returns-then-byte-lt48 c = below-digits c.args.byte c.if-byte-lt48.true

pub returns-then-byte-le57 : goal.returns-then-byte-le57
returns-then-byte-le57 c = a-decimal c.args.byte c.if-byte-lt48.false c.if-byte-le57.true

pub returns-then-byte-lt65 : goal.returns-then-byte-lt65
returns-then-byte-lt65 c = between-digits c.args.byte c.if-byte-lt48.false c.if-byte-le57.false c.if-byte-lt65.true

pub returns-then-byte-le70 : goal.returns-then-byte-le70
returns-then-byte-le70 c =
    a-letter c.args.byte c.if-byte-lt48.false c.if-byte-le57.false c.if-byte-lt65.false c.if-byte-le70.true

pub returns : goal.returns
returns c =
    above-digits c.args.byte c.if-byte-lt48.false c.if-byte-le57.false c.if-byte-lt65.false c.if-byte-le70.false
