-- `sheet_reading::judge::head_fine` meets its contract. Assumes nothing.
use borrow.Author.Rules.{rules}
use Prim.Native.Nat.{ℕ, ◌^◌, ◌≤◌, ◌<◌}
use mathlib.Core.Path.{◌≡◌, sym, ap, ap₂, subst, ◌∙◌}
use mir.Syntax.{w64}
use mir.Val.{Fits}
use lib.Dec.{leb}
use lib.ListN.{get_or}
use Rattle.point.specs.declared.Point.{Point}
use Rattle.listing.specs.Words.{point_in}
use Rattle.listing.specs.Listed.{pos_len, neg_len}
use Rattle.listing.specs.declared.Span.{Span}
use Rattle.sheets.specs.Entries.{pos_in, neg_in}
use Rattle.sheet_reading.proofs.JudgeLaws.{head-no, head-start, head-bounds, head-pos, head-rest, pos-wide}
use Rattle.sheet_reading.proofs.judge.head_fine.Goals as goal

pub returns-then-not-is_point : goal.returns-then-not-is_point
returns-then-not-is_point c = head-no c.args.w (sym c.is_point.ensures ∙ c.if-not-is_point.true)

pub returns-then-b-ne0 : goal.returns-then-b-ne0
returns-then-b-ne0 c =
    head-start c.args.w (sym c.is_point.ensures ∙ c.if-not-is_point.false)
    (λ e. c.if-b-ne0.true (ap (λ (x : Span). x.start) c.bounds_of-b.ensures ∙ e))

pub returns-then-b-gt159 : goal.returns-then-b-gt159
returns-then-b-gt159 c =
    head-bounds c.args.w (sym c.is_point.ensures ∙ c.if-not-is_point.false)
    (ap (λ (x : Span). x.start) (sym c.bounds_of-b.ensures) ∙ c.if-b-ne0.false)
    (subst (λ (x : Span). 159 < x.len) c.bounds_of-b.ensures c.if-b-gt159.true)

pub pos_len-requires : goal.pos_len-requires
pos_len-requires c =
    let g : Fits w64 (get_or c.args.w 5 0) = search rules in
    subst (λ (p : Point). pos_len p.figures c.bounds_of-b.result < 2 ^ 64) (sym c.point_of-p.ensures)
    (subst (λ (x : Span). pos_len (point_in c.args.w).figures x < 2 ^ 64) (sym c.bounds_of-b.ensures)
    (pos-wide c.args.w g.fits (subst (λ (x : Span). x.len ≤ 159) c.bounds_of-b.ensures c.if-b-gt159.false)))

pub returns-then-pos_len-gt160 : goal.returns-then-pos_len-gt160
returns-then-pos_len-gt160 c =
    let n : c.pos_len.result ≡ pos_in c.args.w =
    c.pos_len.ensures ∙ ap₂ (λ (x : Point) (y : Span). pos_len x.figures y) c.point_of-p.ensures c.bounds_of-b.ensures in
    head-pos c.args.w (sym c.is_point.ensures ∙ c.if-not-is_point.false)
    (ap (λ (x : Span). x.start) (sym c.bounds_of-b.ensures) ∙ c.if-b-ne0.false)
    (subst (λ (x : Span). x.len ≤ 159) c.bounds_of-b.ensures c.if-b-gt159.false)
    (subst (λ (x : ℕ). 160 < x) n c.if-pos_len-gt160.true)

pub returns : goal.returns
returns c =
    let n : c.pos_len.result ≡ pos_in c.args.w =
    c.pos_len.ensures ∙ ap₂ (λ (x : Point) (y : Span). pos_len x.figures y) c.point_of-p.ensures c.bounds_of-b.ensures in
    let m : c.neg_len.result ≡ neg_in c.args.w = c.neg_len.ensures ∙ ap (λ (x : Point). neg_len x.figures) c.point_of-p.ensures in
    ap (λ (x : ℕ). leb x 160) m
    ∙ head-rest c.args.w (sym c.is_point.ensures ∙ c.if-not-is_point.false)
    (ap (λ (x : Span). x.start) (sym c.bounds_of-b.ensures) ∙ c.if-b-ne0.false)
    (subst (λ (x : Span). x.len ≤ 159) c.bounds_of-b.ensures c.if-b-gt159.false)
    (subst (λ (x : ℕ). x ≤ 160) n c.if-pos_len-gt160.false)
