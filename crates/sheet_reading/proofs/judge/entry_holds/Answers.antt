-- `sheet_reading::judge::entry_holds` meets its contract. Assumes nothing.
use Prim.Native.Nat.{ℕ, ◌+◌, ◌-◌, ◌≤◌, ◌<◌}
use mathlib.Core.Path.{◌≡◌, sym, ap, subst, ◌∙◌}
use mathlib.Core.List.{List}
use native.Mathlib.Omega.{arith}
use lib.ListN.{length}
use Rattle.records.specs.Records.{cells}
use Rattle.records.specs.Inner.{run}
use Rattle.sheets.specs.Inner.{row_fine, head_fine}
use Rattle.sheet_reading.specs.Inner.{rest_holds, sizes_of, words_in, Few}
use Rattle.sheet_reading.proofs.EntryLaws.{within-there}
use Rattle.sheet_reading.proofs.JudgeLaws.{bad-short, bad-row, bad-head, bad-long, entry-is-rest}
use Rattle.sheet_reading.proofs.SizeLaws.{head_few}
use Rattle.sheet_reading.proofs.judge.entry_holds.Goals as goal

pub returns-then-many-k-lt21 : goal.returns-then-many-k-lt21
returns-then-many-k-lt21 c =
    bad-short c.args.s.now c.args.k (omega (arith, c.requires.0, c.if-many-k-lt21.true))

pub row_at-row-requires : goal.row_at-row-requires
row_at-row-requires c =
    within-there c.args.s.now c.args.k 9 (omega (arith, c.requires.0, c.requires.2)) (omega (arith, c.requires.0, c.requires.1, c.if-many-k-lt21.false))

pub returns-then-not-row_fine : goal.returns-then-not-row_fine
returns-then-not-row_fine c =
    bad-row c.args.s.now c.args.k (omega (arith, c.requires.0, c.requires.1, c.if-many-k-lt21.false))
    (ap row_fine (sym c.row_at-row.ensures) ∙ sym c.row_fine.ensures ∙ c.if-not-row_fine.true)

pub head_at-w-requires : goal.head_at-w-requires
head_at-w-requires c =
    within-there c.args.s.now (c.args.k + 9) 12 (omega (arith, c.requires.0, c.requires.2)) (omega (arith, c.requires.0, c.requires.1, c.if-many-k-lt21.false))

pub returns-then-not-head_fine : goal.returns-then-not-head_fine
returns-then-not-head_fine c =
    bad-head c.args.s.now c.args.k (omega (arith, c.requires.0, c.requires.1, c.if-many-k-lt21.false))
    (ap row_fine (sym c.row_at-row.ensures) ∙ sym c.row_fine.ensures ∙ c.if-not-row_fine.false)
    (ap head_fine (sym c.head_at-w.ensures) ∙ sym c.head_fine.ensures ∙ c.if-not-head_fine.true)

pub sizes_of-z-requires : goal.sizes_of-z-requires
sizes_of-z-requires c = sym c.head_fine.ensures ∙ c.if-not-head_fine.false

pub words_in-requires : goal.words_in-requires
words_in-requires c =
    subst Few (sym c.sizes_of-z.ensures) (head_few c.head_at-w.result (sym c.head_fine.ensures ∙ c.if-not-head_fine.false))

pub returns-then-many-k : goal.returns-then-many-k
returns-then-many-k c =
    let q : c.words_in.result ≡ words_in (sizes_of (run c.args.s.now (c.args.k + 9) 12)) =
    c.words_in.ensures ∙ ap words_in (c.sizes_of-z.ensures ∙ ap sizes_of c.head_at-w.ensures) in
    bad-long c.args.s.now c.args.k (omega (arith, c.requires.0, c.requires.1, c.if-many-k-lt21.false))
    (ap row_fine (sym c.row_at-row.ensures) ∙ sym c.row_fine.ensures ∙ c.if-not-row_fine.false)
    (ap head_fine (sym c.head_at-w.ensures) ∙ sym c.head_fine.ensures ∙ c.if-not-head_fine.false)
    (subst (λ (x : ℕ). length (cells c.args.s.now) - c.args.k < x) q (omega (arith, c.requires.0, c.if-many-k.true)))

pub rest_holds-requires : goal.rest_holds-requires
rest_holds-requires c = (
  subst Few (sym c.sizes_of-z.ensures) (head_few c.head_at-w.result (sym c.head_fine.ensures ∙ c.if-not-head_fine.false)),
  within-there c.args.s.now c.args.k (words_in c.sizes_of-z.result) (omega (arith, c.requires.0, c.requires.2))
      (omega (arith, c.requires.0, c.requires.1, c.if-many-k.false, c.words_in.ensures)),
  c.sizes_of-z.ensures,
)

pub returns : goal.returns
returns c =
    let q : c.words_in.result ≡ words_in (sizes_of (run c.args.s.now (c.args.k + 9) 12)) =
    c.words_in.ensures ∙ ap words_in (c.sizes_of-z.ensures ∙ ap sizes_of c.head_at-w.ensures) in
    c.rest_holds.ensures
    ∙ ap (λ (w : List ℕ). rest_holds c.args.s.now w c.args.k) c.head_at-w.ensures
    ∙ entry-is-rest c.args.s.now c.args.k (omega (arith, c.requires.0, c.requires.1, c.if-many-k-lt21.false))
    (ap row_fine (sym c.row_at-row.ensures) ∙ sym c.row_fine.ensures ∙ c.if-not-row_fine.false)
    (ap head_fine (sym c.head_at-w.ensures) ∙ sym c.head_fine.ensures ∙ c.if-not-head_fine.false)
    (subst (λ (x : ℕ). c.args.k + x ≤ length (cells c.args.s.now)) q (omega (arith, c.requires.0, c.requires.1, c.if-many-k.false)))
