-- A fresh series, and values recorded one after another. Assumes nothing.
use Rattle.std.specs.Prelude.{ℕ}
use Rattle.laws.specs.Said.{Said, refusal, success}
use Rattle.points.specs.Values.{start}
use Rattle.exponential.specs.declared.Head.{Head}
use Rattle.exponential.specs.Series.{head_of}

-- the head of a fresh series: nothing counted, and the extremes and the sum that document 01 starts from
abbrev pub fresh_head : ℕ → Head
fresh_head top =
    head_of (record { count = 0; zeros = 0; level = top; pos = record { start = 0; len = 0 }; neg = record { start = 0; len = 0 } }) start

-- what the next call makes of the success of the one before; after a refusal there is no next call, and b is what there is
abbrev pub next : {A B : Type 0} → Said A → (A → B) → B → B
next (success a) call b = call a
next (refusal n) call b = b
