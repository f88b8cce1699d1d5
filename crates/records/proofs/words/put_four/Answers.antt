-- `records::words::put_four` meets its contract. Assumes nothing.
use lib.Seq.{sets}
use mathlib.Core.List.{List}
use Prim.Native.Nat.{ℕ, ◌+◌, ◌/◌}
use Rattle.records.proofs.Bytes.{put_four}
use mathlib.Core.Path.{ap, ◌∙◌}
use Rattle.records.specs.Words.{bytes2}
use Rattle.records.proofs.words.put_four.Goals as goal

pub returns : goal.returns
returns c = let s = c.args in
    c.put_two-2.ensures
    ∙ ap (λ (l : List ℕ). sets l (s.i + 2) (bytes2 (s.x / 65536))) c.put_two.ensures
    ∙ put_four s.s.now s.i s.x
