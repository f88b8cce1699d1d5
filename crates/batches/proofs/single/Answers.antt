-- `batches::single` meets its contract. Assumes nothing.
use mathlib.Core.Path.{refl, sym, ap, ◌∙◌}
use Rattle.laws.specs.Said.{refusal}
use Rattle.numbered.specs.Numbered.{code_by}
use Rattle.batches.proofs.Ends.{answer-done, answer-no}
use Rattle.batches.proofs.single.Goals as goal

pub returns-in-Ok : goal.returns-in-Ok
returns-in-Ok g c = (answer-done (code_by g.E.Numbered.number c.args.b.end) (ap (code_by g.E.Numbered.number) c.in-Ok.is), refl)

pub returns-in-Err : goal.returns-in-Err
returns-in-Err g c =
    let r = c.args.b.end in
    let e = c.in-Err.is in
    (ap (λ n. refusal n) (sym (ap (code_by g.E.Numbered.number) e)) ∙ answer-no (code_by g.E.Numbered.number r) (λ z. g.met.E.Reason.refuses _ (sym (ap (code_by g.E.Numbered.number) e) ∙ z)), refl)
