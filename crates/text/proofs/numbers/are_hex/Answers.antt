-- `text::numbers::are_hex` meets its contract: those that are left decide what all do, where those before are. Assumes nothing.
use Rattle.std.proofs.Common.{◌≡◌, ℕ, ◌+◌, Bool, true, false, List, length, get_or, take, drop, sym, refl, ap, ◌∙◌, arith, take_all}
use mathlib.Core.Bool.{◌&&◌, ◌||◌}
use Rattle.laws.specs.Pick.{pick}
use Rattle.text.specs.Pairs.{are_hex, is_decimal, is_letter}
use Rattle.text.proofs.Pairing.{hex-turn, hex-end}
use Rattle.text.proofs.numbers.are_hex.Goals as goal

sixteen : (bs : List ℕ) → length bs ≡ 16 → take 16 bs ≡ bs
sixteen bs h = take_all 16 bs (omega arith)

still : (all decimal letter : Bool) → all && (decimal || letter) ≡ pick decimal all (pick letter all false)
unfolding pick
still true true letter = refl
still false true letter = refl
still true false true = refl
still false false true = refl
still true false false = refl
still false false false = refl

pub loop-byte-init : goal.loop-byte-init
unfolding pick
loop-byte-init c = refl

pub loop-byte-preserved : goal.loop-byte-preserved
loop-byte-preserved c =
    let l = c.loop-byte in
    let i = l.byte-index in
    let bs = c.args.bytes.now in
    let n = sixteen bs c.requires in
    let m = ap (λ (r : List ℕ). length r) n in
    let r = are_hex (drop (i + 1) bs) in
    let e : l.all && (c.is_decimal.result || c.is_letter.result) ≡ pick (is_decimal (get_or bs i 0)) l.all (pick (is_letter (get_or bs i 0)) l.all false) =
    still l.all _ _
    ∙ ap (λ (x : Bool). pick x l.all (pick c.is_letter.result l.all false)) (c.is_decimal.ensures ∙ ap (λ (xs : List ℕ). is_decimal (get_or xs i 0)) n)
    ∙ ap (λ (x : Bool). pick (is_decimal (get_or bs i 0)) l.all (pick x l.all false)) (c.is_letter.ensures ∙ ap (λ (xs : List ℕ). is_letter (get_or xs i 0)) n) in
    ap (λ (x : Bool). pick x r false) e ∙ hex-turn l.all bs i (omega (arith, m)) ∙ l.invariant

pub returns : goal.returns
returns c =
    let l = c.loop-byte in
    let bs = c.args.bytes.now in
    let m = ap (λ (r : List ℕ). length r) (sixteen bs c.requires) in
    sym (hex-end l.all bs l.byte-index (omega (arith, m))) ∙ l.invariant
