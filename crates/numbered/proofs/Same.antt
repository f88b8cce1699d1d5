-- At a Refusal an answer's number, and what it says, are those of crate refusals. Assumes nothing.
use Rattle.std.specs.Prelude.{◌≡◌, refl, Result}
use Rattle.refusals.specs.declared.Refusal.{Refusal}
use Rattle.refusals.specs.Refusals.{number, code, said}
use Rattle.numbered.specs.Numbered.{code_by, said_by}

pub same-code : {A : Type 0} → (r : Result A Refusal) → code_by number r ≡ code r
same-code r = refl

pub same-said : {A : Type 0} → (r : Result A Refusal) → said_by number r ≡ said r
same-said r = refl
