-- `lines::attributes::attribute_at` meets its contract. Assumes nothing.
use mathlib.Core.Path.{refl, sym, ap, ◌∙◌}
use native.Mathlib.Omega.{arith}
use lib.ListN.{drop}
use Rattle.std.specs.Prelude.{Some}
use Rattle.text.specs.Fields.{until}
use Rattle.lines.specs.Spelled.{both_of}
use Rattle.lines.proofs.Scanning.{colon-mark, comma-mark}
use Rattle.lines.proofs.Colons.{no_key, at-end, at_value, parted-none}
use Rattle.lines.proofs.attributes.attribute_at.Goals as goal

pub word_at-requires : goal.word_at-requires
word_at-requires c = (c.requires, colon-mark)

pub returns-in_err-key : goal.returns-in_err-key
returns-in_err-key c =
    let a = c.args in
    let xs = drop a.from a.bytes.now in
    parted-none (until 44 xs) a.from c.from_residual.result c.from_residual.ensures (no_key xs (sym c.in_err-key.ensures.0))

pub returns-then-bytes-key : goal.returns-then-bytes-key
returns-then-bytes-key c =
    let a = c.args in
    let k = c.in_ok-key in
    (sym (at-end a.bytes.now a.from k.key.to _ (sym k.ensures.0) k.ensures.1 c.requires c.if-bytes-key.true), refl)

pub word_at-requires-2 : goal.word_at-requires-2
word_at-requires-2 c = (omega arith, comma-mark)

pub returns-in_err-value : goal.returns-in_err-value
returns-in_err-value c =
    let a = c.args in
    let bs = a.bytes.now in
    let k = c.in_ok-key in
    let f = at_value bs a.from k.key.to _ (sym k.ensures.0) k.ensures.1 (omega (arith, c.if-bytes-key.false)) in
    parted-none (until 44 (drop a.from bs)) a.from c.from_residual-in_err-value.result c.from_residual-in_err-value.ensures
    (f.0 ∙ ap (both_of (Some _)) (sym c.in_err-value.ensures.0))

pub returns : goal.returns
returns c =
    let a = c.args in
    let bs = a.bytes.now in
    let k = c.in_ok-key in
    let f = at_value bs a.from k.key.to _ (sym k.ensures.0) k.ensures.1 (omega (arith, c.if-bytes-key.false)) in
    (sym (f.0 ∙ ap (both_of (Some _)) (sym c.in_ok-value.ensures.0)), c.in_ok-value.ensures.1 ∙ sym f.1)
