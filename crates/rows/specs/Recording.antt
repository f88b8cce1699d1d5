-- What recording a value into one slot of a kind's stores gives, the same for every kind. Assumes nothing.
use Rattle.std.specs.Prelude.{ℕ}

-- document 01's number, 0 if the value was taken, and the kind's cells afterwards
pub record Recording (Cells : Type 0) : Type 0 where
  pub no : ℕ
  pub cells : Cells

-- as a contract writes it: the number that was answered, and the cells that were left
abbrev pub after : {Cells : Type 0} → ℕ → Cells → Recording Cells
after n c = record { no = n; cells = c }
