-- Text gathered in a block of 65536 bytes, which is written when it is full, and then begun anew. Assumes nothing.
use Rattle.std.specs.Prelude.{ℕ, ◌+◌, List, [], ◌∷◌, ltb, set}
use Rattle.laws.specs.Pick.{pick}

-- text that waits to be written: how many of a block's bytes, and the block
pub record Text : Type 0 where
  pub count : ℕ
  pub block : List ℕ

-- as a contract writes it: n bytes wait in a lent block, at entry or at exit
abbrev pub waiting : ℕ → List ℕ → Text
waiting n block = record { count = n; block = block }

-- where the next byte goes behind n that wait
unfoldable pub place : ℕ → ℕ
place n = pick (ltb n 65536) n 0

-- the text that waits after bytes were put behind it, one after another
infixr 20 ◌behind◌
unfoldable pub ◌behind◌ : List ℕ → Text → Text
[] behind t = t
(b ∷ bs) behind t = bs behind record { count = place t.count + 1; block = set t.block (place t.count) b }
