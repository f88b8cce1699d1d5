-- `whole_listing::encode::words_of` meets its contract. Assumes nothing.
use Prim.Native.Nat.{◌≤◌}
use mathlib.Core.Path.{◌≡◌, sym, ap, subst, ◌∙◌}
use mathlib.Core.List.{List}
use borrow.Author.Rules.{rules}
use lib.ListN.{get_or}
use mir.Syntax.{w64}
use mir.Val.{SFits}
use Rattle.integers.proofs.Range.{held}
use Rattle.point.specs.declared.Point as P
use Rattle.whole_point.specs.Handing.{shadow_point}
use Rattle.listing.specs.Words as F
use Rattle.whole_listing.specs.Inner.{with_numbers}
use Rattle.whole_listing.proofs.Shadow.{shown-alike}
use Rattle.whole_listing.proofs.Cases.{kind-least, words-made}
use Rattle.whole_listing.proofs.encode.words_of.Goals as goal

pub with_numbers-requires : goal.with_numbers-requires
with_numbers-requires c =
    let shadow-words : c.words_of-w.result ≡ F.words_of (shadow_point c.args.p) c.args.b = c.words_of-w.ensures ∙ ap (λ (q : P.Point). F.words_of q c.args.b) c.shadow_of-shadow.ensures in
    let a = c.args in
    subst (λ (w : List _). get_or w 0 0 ≤ 1) (sym (shadow-words)) (kind-least a.p.figures a.b _)

pub returns : goal.returns
returns c =
    let shadow-words : c.words_of-w.result ≡ F.words_of (shadow_point c.args.p) c.args.b = c.words_of-w.ensures ∙ ap (λ (q : P.Point). F.words_of q c.args.b) c.shadow_of-shadow.ensures in
    let sum : SFits w64 c.args.p.sum = search rules in
    c.with_numbers.ensures
    ∙ (λ i. with_numbers (shadow-words i) c.args.p.min c.args.p.max (held c.args.p.sum (sum) i))
    ∙ words-made (shadow_point c.args.p) c.args.b c.args.p.min c.args.p.max c.args.p.sum (shown-alike c.args.p.min)
