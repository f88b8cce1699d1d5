-- `records::chain::link_of` meets its contract. Assumes nothing.
use native.Mathlib.Omega.{arith}
use Prim.Native.Nat.{◌+◌}
use mathlib.Core.Path.{◌≡◌}
use Rattle.records.proofs.Links.{link-alone, link-first, link-last, link-next}
use Rattle.records.proofs.chain.link_of.Goals as goal

pub returns-then-n-eq1 : goal.returns-then-n-eq1
returns-then-n-eq1 c = let a = c.args in
    let p : a.r ≡ 0 = omega arith in
    let q : a.n ≡ 1 = omega arith in
    link-alone a.info a.n a.r p q

pub returns-then-r-eq0 : goal.returns-then-r-eq0
returns-then-r-eq0 c = let a = c.args in
    let p : a.r ≡ 0 = omega arith in
    link-first a.info a.n a.r p (λ q. omega arith)

pub returns-then-r-n : goal.returns-then-r-n
returns-then-r-n c = let a = c.args in
    let q : a.r + 1 ≡ a.n = omega arith in
    link-last a.info a.n a.r (λ p. omega arith) q

pub returns : goal.returns
returns c = let a = c.args in link-next a.info a.n a.r (λ p. omega arith) (λ q. omega arith)
