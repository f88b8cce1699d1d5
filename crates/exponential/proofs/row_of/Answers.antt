use Rattle.std.proofs.Common.{◌≡◌, ℕ, ◌-◌, ◌<◌, ◌≤◌, min, Bool, List, length, take, drop, sym, ap, ◌∙◌, ⊎_elim, arith, take_all}
use Rattle.laws.specs.Pick.{pick}
use Rattle.rows.proofs.Algebra.{le_or-lt}
use Rattle.exponential.proofs.row_of.Goals as goal

-- the part from 0 up to the shorter of k and the length
part-is : (k j : ℕ) (xs : List ℕ) → j ≡ min k (length xs) → take (j - 0) (drop 0 xs) ≡ take k xs
part-is k j xs e =
    let z : j - 0 ≡ j = omega arith in
    ap (λ (n : ℕ). take n xs) z
    ∙ ⊎_elim
    (λ (l : k ≤ length xs). let q : j ≡ k = omega (arith, e) in ap (λ (n : ℕ). take n xs) q)
    (λ (l : length xs < k). take_all j xs (omega (arith, e)) ∙ sym (take_all k xs (omega arith)))
    (le_or-lt k (length xs))

pub returns-then-negative : goal.returns-then-negative
unfolding pick
returns-then-negative c =
    let a = c.args in
    part-is a.c.neg.len c.min-j.result a.neg.now c.min-j.ensures
    ∙ sym (ap (λ (b : Bool). pick b (take a.c.neg.len a.neg.now) (take a.c.pos.len a.pos.now)) c.if-negative.true)

pub returns-else-negative : goal.returns-else-negative
unfolding pick
returns-else-negative c =
    let a = c.args in
    part-is a.c.pos.len c.min-i.result a.pos.now c.min-i.ensures
    ∙ sym (ap (λ (b : Bool). pick b (take a.c.neg.len a.neg.now) (take a.c.pos.len a.pos.now)) c.if-negative.false)
