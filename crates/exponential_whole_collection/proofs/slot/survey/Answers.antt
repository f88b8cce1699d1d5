-- `exponential_whole_collection::slot::survey` meets its contract. Assumes nothing.
use borrow.Author.Rules.{rules}
use mathlib.Core.Path.{◌≡◌, sym, ap, ◌∙◌}
use mathlib.Core.Bool.{true, not, ◌||◌}
use native.Mathlib.Omega.{arith}
use Rattle.exponential_whole_slots.specs.Cells.{Cells, cells}
use Rattle.collecting.specs.declared.Survey.{Survey}
use Rattle.exponential_whole_collection.specs.Points.{exponential_whole_lister}
use Rattle.exponential_collection.proofs.Slots.{survey_8, survey-same}
use Rattle.exponential_whole_collection.proofs.Slots.{agrees_at, few, words-few, survey-due}
use Rattle.exponential_whole_collection.proofs.slot.survey.Goals as goal

pub is_sound-requires : goal.is_sound-requires
is_sound-requires c = record { top_value = c.requires.top_value; known = c.requires.few.1 }

pub returns-then-not-is_sound : goal.returns-then-not-is_sound
returns-then-not-is_sound c =
    let lent : Cells = let a = c.args in cells a.figures.now a.extremes.now a.pos.now a.neg.now in
    let a = c.args in record {
      value = survey_8 (exponential_whole_lister a.size a.top true) true a.updated a.due (lent) a.x a.s
          (sym c.is_sound.ensures ∙ c.if-not-is_sound.true);
      more = search rules;
    }

pub returns-then-not-due : goal.returns-then-not-due
returns-then-not-due c =
    let lent : Cells = let a = c.args in cells a.figures.now a.extremes.now a.pos.now a.neg.now in
    let sound : (not c.args.updated
    || agrees_at c.args.size c.args.top c.requires.top_value.0 (lent) c.args.x c.requires.top_value.1) ≡ true = sym c.is_sound.ensures ∙ c.if-not-is_sound.false in
    let a = c.args in record { value = survey-same (exponential_whole_lister a.size a.top true) true a.updated a.due (lent) a.x a.s (sound) c.if-not-due.true; more = search rules }

pub counted-requires : goal.counted-requires
counted-requires c =
    let lent : Cells = let a = c.args in cells a.figures.now a.extremes.now a.pos.now a.neg.now in
    let sound : (not c.args.updated
    || agrees_at c.args.size c.args.top c.requires.top_value.0 (lent) c.args.x c.requires.top_value.1) ≡ true = sym c.is_sound.ensures ∙ c.if-not-is_sound.false in
    let a = c.args in record { few = c.requires.few.0; f_bound = words-few a.size a.top c.requires.top_value.0 (lent) a.x c.requires.top_value.1 a.updated (sound) }

pub returns : goal.returns
returns c =
    let lent : Cells = let a = c.args in cells a.figures.now a.extremes.now a.pos.now a.neg.now in
    let sound : (not c.args.updated
    || agrees_at c.args.size c.args.top c.requires.top_value.0 (lent) c.args.x c.requires.top_value.1) ≡ true = sym c.is_sound.ensures ∙ c.if-not-is_sound.false in
    let a = c.args in
    let n = few a.size a.top c.requires.top_value.0 (lent) a.x c.requires.top_value.1 a.updated (sound) in
    let i = ap (λ (v : Survey). v.points) c.counted.ensures in
    let j = ap (λ (v : Survey). v.pos) c.counted.ensures in
    let k = ap (λ (v : Survey). v.neg) c.counted.ensures in record { value = c.counted.ensures ∙ survey-due a.size a.top c.requires.top_value.0 (lent) a.x c.requires.top_value.1 a.updated (sound) a.due a.s c.if-not-due.false; more = (omega (arith, i), omega (arith, j, n.0), omega (arith, k, n.1)) }
