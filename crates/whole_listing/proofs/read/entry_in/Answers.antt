-- `whole_listing::read::entry_in` meets its contract. Assumes nothing.
use Prim.Native.Nat.{ℕ}
use mathlib.Core.Path.{◌≡◌, sym, ap, ◌∙◌}
use mathlib.Core.Bool.{true}
use mathlib.Core.List.{List}
use borrow.Author.Rules.{rules}
use lib.ListN.{get_or}
use mir.Syntax.{w64}
use mir.Val.{Fits}
use Rattle.whole_point.specs.declared.Point.{Point}
use Rattle.listing.specs.Listed as L
use Rattle.std.specs.Prelude.{Some, None}
use Rattle.whole_listing.specs.Listed.{entry_in}
use Rattle.whole_listing.specs.Inner.{own_words, numbered_found}
use Rattle.whole_listing.proofs.Reading.{Wide, kind-own}
use Rattle.whole_listing.proofs.Calls.{entry-no, entry-by}
use Rattle.whole_listing.proofs.read.entry_in.Goals as goal

pub returns-then-not-own_words : goal.returns-then-not-own_words
returns-then-not-own_words c =
    let a = c.args in
    entry-no a.at a.w a.pos a.neg (sym c.own_words.ensures ∙ c.if-not-own_words.true)

pub shadow_words-s-requires : goal.shadow_words-s-requires
shadow_words-s-requires c =
    let own : own_words c.args.w ≡ true = sym c.own_words.ensures ∙ c.if-not-own_words.false in
    kind-own c.args.w (own)

pub returns-in_err-e : goal.returns-in_err-e
returns-in_err-e c =
    let wide : Wide c.args.w =
    let l : Fits w64 (get_or c.args.w 9 0) = search rules in
    let h : Fits w64 (get_or c.args.w 10 0) = search rules in
    let t : Fits w64 (get_or c.args.w 11 0) = search rules in
    (l.fits, h.fits, t.fits) in
    let own : own_words c.args.w ≡ true = sym c.own_words.ensures ∙ c.if-not-own_words.false in
    let by-shadow : numbered_found c.args.w None ≡ entry_in c.args.at c.args.w c.args.pos c.args.neg =
    let a = c.args in
    ap (numbered_found a.w) (c.in_err-e.ensures ∙ ap (λ (x : List ℕ). L.entry_in a.at x a.pos a.neg) c.shadow_words-s.ensures)
    ∙ entry-by a.at a.w a.pos a.neg (wide) (own) in
    c.from_residual.ensures ∙ by-shadow

pub returns : goal.returns
returns c =
    let wide : Wide c.args.w =
    let l : Fits w64 (get_or c.args.w 9 0) = search rules in
    let h : Fits w64 (get_or c.args.w 10 0) = search rules in
    let t : Fits w64 (get_or c.args.w 11 0) = search rules in
    (l.fits, h.fits, t.fits) in
    let own : own_words c.args.w ≡ true = sym c.own_words.ensures ∙ c.if-not-own_words.false in
    let by-shadow : numbered_found c.args.w (Some c.in_ok-e.e) ≡ entry_in c.args.at c.args.w c.args.pos c.args.neg =
    let a = c.args in
    ap (numbered_found a.w) (c.in_ok-e.ensures ∙ ap (λ (x : List ℕ). L.entry_in a.at x a.pos a.neg) c.shadow_words-s.ensures)
    ∙ entry-by a.at a.w a.pos a.neg (wide) (own) in
    let a = c.args in
    ap (λ (q : Point). Some (record { point = q; bounds = c.in_ok-e.e.bounds; next = c.in_ok-e.e.next })) c.point_of.ensures
    ∙ by-shadow
