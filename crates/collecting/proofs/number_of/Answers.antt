-- `collecting::number_of` meets its contract. Assumes nothing.
use mathlib.Core.Path.{◌≡◌, sym}
use mathlib.Core.Bool.{true}
use borrow.Author.Tests.{not-true, not-false}
use Rattle.collecting.proofs.Numbers.{number-unsound, number-sets, number-words, number-pos, number-neg, number-none}
use Rattle.collecting.proofs.number_of.Goals as goal

pub returns-then-not-s : goal.returns-then-not-s
returns-then-not-s c = sym (number-unsound c.args.s c.args.sets c.args.words c.args.pos c.args.neg (not-true _ c.if-not-s.true))

pub returns-then-s-sets : goal.returns-then-s-sets
returns-then-s-sets c =
    let sound : c.args.s.sound ≡ true = not-false _ c.if-not-s.false in
    sym (number-sets c.args.s c.args.sets c.args.words c.args.pos c.args.neg (sound) c.if-s-sets.true)

pub returns-then-s-words : goal.returns-then-s-words
returns-then-s-words c =
    let sound : c.args.s.sound ≡ true = not-false _ c.if-not-s.false in
    sym (number-words c.args.s c.args.sets c.args.words c.args.pos c.args.neg (sound) c.if-s-sets.false c.if-s-words.true)

pub returns-then-s-pos : goal.returns-then-s-pos
returns-then-s-pos c =
    let sound : c.args.s.sound ≡ true = not-false _ c.if-not-s.false in
    sym (number-pos c.args.s c.args.sets c.args.words c.args.pos c.args.neg (sound) c.if-s-sets.false c.if-s-words.false c.if-s-pos.true)

pub returns-then-s-neg : goal.returns-then-s-neg
returns-then-s-neg c =
    let sound : c.args.s.sound ≡ true = not-false _ c.if-not-s.false in
    sym (number-neg c.args.s c.args.sets c.args.words c.args.pos c.args.neg (sound) c.if-s-sets.false c.if-s-words.false c.if-s-pos.false c.if-s-neg.true)

pub returns : goal.returns
returns c =
    let sound : c.args.s.sound ≡ true = not-false _ c.if-not-s.false in
    sym (number-none c.args.s c.args.sets c.args.words c.args.pos c.args.neg (sound) c.if-s-sets.false c.if-s-words.false c.if-s-pos.false c.if-s-neg.false)
