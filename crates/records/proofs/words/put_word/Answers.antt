-- `records::words::put_word` meets its contract. Assumes nothing.
use lib.Seq.{sets}
use mathlib.Core.List.{List}
use Prim.Native.Nat.{ℕ, ◌+◌, ◌/◌}
use Rattle.records.proofs.Bytes.{put-eight}
use mathlib.Core.Path.{ap, ◌∙◌}
use Rattle.records.specs.Words.{bytes4}
use Rattle.records.proofs.words.put_word.Goals as goal

pub returns : goal.returns
returns c = let s = c.args in
    c.put_four-2.ensures
    ∙ ap (λ (l : List ℕ). sets l (s.i + 4) (bytes4 (s.x / 4294967296))) c.put_four.ensures
    ∙ put-eight s.s.now s.i s.x
