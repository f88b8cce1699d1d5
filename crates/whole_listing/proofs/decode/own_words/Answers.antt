-- `whole_listing::decode::own_words` meets its contract. Assumes nothing.
use mathlib.Core.Path.{sym, ap, ◌∙◌}
use mathlib.Core.Bool.{Bool, ◌&&◌}
use native.Mathlib.Omega.{arith}
use lib.Dec.{leb}
use lib.ListN.{get_or}
use Rattle.whole_listing.specs.Inner.{blank}
use Rattle.whole_listing.proofs.Calls.{own-kind, own-rest}
use Rattle.whole_listing.proofs.decode.own_words.Goals as goal

pub returns-then-w-lt2 : goal.returns-then-w-lt2
returns-then-w-lt2 c = own-kind c.args.w (omega (arith, c.if-w-lt2.true))

pub returns-then-not-is_blank : goal.returns-then-not-is_blank
returns-then-not-is_blank c =
    ap (λ (t : Bool). t && blank (leb 2 (get_or c.args.w 8 0)) (get_or c.args.w 10 0)) (sym (c.if-not-is_blank.true))
    ∙ own-rest c.args.w (omega (arith, c.if-w-lt2.false)) c.is_blank.result c.is_blank.ensures

pub returns : goal.returns
returns c =
    c.is_blank-2.ensures
    ∙ ap (λ (t : Bool). t && blank (leb 2 (get_or c.args.w 8 0)) (get_or c.args.w 10 0)) (sym (c.if-not-is_blank.false))
    ∙ own-rest c.args.w (omega (arith, c.if-w-lt2.false)) c.is_blank.result c.is_blank.ensures
