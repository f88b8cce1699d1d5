-- `sheet_writing::put::put_point` meets its contract. Assumes nothing.
use borrow.Author.Rules.{rules}
use mathlib.Core.Path.{◌≡◌, ap, ◌∙◌}
use mathlib.Core.List.{List, ◌++◌, map}
use Prim.Native.Nat.{ℕ, ◌+◌}
use native.Mathlib.Omega.{arith}
use lib.ListN.{length, length-map}
use Rattle.floats.specs.Answers.{bits_of}
use Rattle.listing.specs.Words.{words_of}
use Rattle.records.specs.Records.{padded}
use Rattle.records.specs.Inner.{laid}
use Rattle.records.proofs.Padded.{width-le}
use Rattle.sheets.proofs.EntryParts.{head-twelve}
use Rattle.sheet_writing.proofs.Putting.{point-laid}
use Rattle.sheet_writing.proofs.put.put_point.Goals as goal

pub width_of-requires : goal.width_of-requires
width_of-requires c =
    omega (arith, c.requires.room.few, c.requires.neg_bound, width-le (length c.args.bounds.now))

pub returns : goal.returns
returns c =
    let a = c.args in
    let nine : length a.row.now ≡ 9 = search rules in
    let counts = a.pos.now ++ a.neg.now in
    point-laid a.info a.n a.k (length a.bounds.now) a.row.now (words_of a.p (record { start = 0; len = length a.bounds.now }))
    (map bits_of a.bounds.now) a.pos.now a.neg.now a.s.now _ _ _ _ nine (head-twelve a.p _) (length-map a.bounds.now bits_of)
    c.emit_run.ensures
    (c.emit_run-2.ensures ∙ ap (λ (u : List ℕ). laid a.info a.n (a.k + 9) u c.emit_run.new.s) c.words_of-head.ensures)
    c.put_bounds.ensures
    (c.put_rows.ensures ∙ ap (λ (u : ℕ). laid a.info a.n (a.k + 21 + u) (padded counts) c.put_bounds.new.s) c.width_of.ensures)
