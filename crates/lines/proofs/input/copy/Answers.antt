-- `lines::input::copy` meets its contract. Assumes nothing.
use Prim.Native.Nat.{ℕ, ◌+◌, ◌-◌}
use mathlib.Core.Path.{◌≡◌, ap, ◌∙◌}
use mathlib.Core.List.{List, ◌++◌}
use native.Mathlib.Omega.{arith}
use lib.ListN.{take, drop}
use lib.Seq.{drop-drop}
use Rattle.lines.proofs.Newlines.{copied-at_once}
use Rattle.lines.proofs.input.copy.Goals as goal

pub returns : goal.returns
returns c =
    let a = c.args in
    let line = a.line.now in
    let k = a.len + a.n - a.len in
    let n : a.len + k ≡ a.len + a.n = omega arith in
    ap (λ (xs : List ℕ). take a.len line ++ (xs ++ drop k (drop a.len line))) c.copy_from_slice.ensures.after
    ∙ ap (λ (xs : List ℕ). take a.len line ++ (take (a.from + a.n - a.from) (drop a.from a.block.now) ++ xs)) (drop-drop k a.len line ∙ ap (λ (m : ℕ). drop m line) n)
    ∙ copied-at_once line a.len a.block.now a.from a.n (omega arith) (omega arith)
