-- `records::chain::emit` meets its contract. Assumes nothing.
use Prim.Native.Nat.{◌%◌}
use native.Mathlib.Omega.{arith}
use mathlib.Core.Path.{◌≡◌}
use Rattle.records.proofs.Links.{emit-first, emit-later, link-room}
use Rattle.records.proofs.chain.emit.Goals as goal

pub put_word-requires : goal.put_word-requires
put_word-requires c = link-room c.args.k _ c.requires.2

pub returns-then-k-eq0 : goal.returns-then-k-eq0
returns-then-k-eq0 c = let a = c.args in
    let e : a.k % 3 ≡ 0 = omega arith in
    cc (emit-first a.info a.n a.k a.x a.s.now e)

pub returns : goal.returns
returns c = let a = c.args in
    cc (emit-later a.info a.n a.k a.x a.s.now (λ e. omega arith))
