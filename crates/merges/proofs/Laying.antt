-- Rows joined over what is lent: one is laid there first, then the other joined to it. Assumes nothing.
use Prim.Native.Nat.{ℕ, ◌+◌, ◌-◌, ◌/◌, ◌^◌, ◌≤◌, ◌<◌, max}
use mathlib.Core.Path.{◌≡◌, refl, ap, sym, subst, ◌∙◌}
use mathlib.Core.Logic.{⊎_elim}
use mathlib.Core.List.{List, ◌++◌}
use native.Mathlib.Nat.{eq-zero-or-pos, zero-div}
use native.Mathlib.Omega.{arith}
use lib.ListN.{length, take, replicate, length-append}
use Rattle.laws.specs.Counting.{total}
use Rattle.points.specs.Points as P
use Rattle.points.proofs.Rows.{row_path}
use Rattle.rows.specs.Rows.{over, downscaled}
use Rattle.rows.specs.declared.Row.{Row}
use Rattle.rows.proofs.Laws.{take-over, over-over, length_over, total-downscaled}
use Rattle.exponential.specs.Steps.{lowered}
use Rattle.exponential.specs.Series.{row_in}
use Rattle.exponential.specs.Inner.{Laid}
use Rattle.merges.specs.Merges.{joined, Joinable, Layable, Lendable}
use Rattle.merges.proofs.Wide.{join-none, join_first, join-both}
use Rattle.merges.proofs.Spans.{lowered_none, lowered-some, long-add}

-- the empty row
abbrev pub none : Row
none = record { start = 0; len = 0 }

-- the row of a, laid first
module _ (a : Row) (j : ℕ) (xs us : List ℕ) (l : Layable a j xs us) where
  abbrev E : P.Row
  E = row_in none us

  abbrev A : P.Row
  A = lowered j (row_in a xs)

  empty-same : a.len ≡ 0 → E ≡ A
  unfolding downscaled
  empty-same z = row_path E A (sym (zero-div (2 ^ j)) ∙ ap (λ n. n / 2 ^ j) (sym (l.empty z))) (sym (ap (λ n. downscaled j a.start (take n xs)) z))

  pub first-joined : joined E A ≡ A
  first-joined =
      ⊎_elim
      (λ (z : a.len ≡ 0). join-none E A (lowered_none j a xs l.short z) ∙ empty-same z)
      (λ (p : 0 < a.len). join_first E A (lowered-some j a xs l.short p) refl)
      (eq-zero-or-pos a.len)

  pub layable : Joinable none us a j xs
  layable =
      record { short = omega arith; other = l.short; few = l.few; sums = omega (arith, l.sums); room = subst (λ (o : P.Row). length o.counts ≤ length us) (sym first-joined) l.room }

  pub laid : (r : Row) (us' : List ℕ) → Laid (joined E A) us r us' → Laid A us r us'
  laid r us' h = subst (λ (o : P.Row). Laid o us r us') first-joined h

-- a joined row is no shorter than its first
joined-grows : (a b : P.Row) → length a.counts ≤ length (joined a b).counts
joined-grows a b =
    ⊎_elim
    (λ (z : length b.counts ≡ 0). rw (join-none a b z) (omega arith))
    (λ (p : 0 < length b.counts).
    ⊎_elim
    (λ (z : length a.counts ≡ 0). omega arith)
    (λ (q : 0 < length a.counts).
    let zs = replicate (a.start - b.start) 0 ++ a.counts in
    let e : length (joined a b).counts ≡ max (length zs) (b.start - a.start + length b.counts) = ap (λ (r : P.Row). length r.counts) (join-both a b p q) ∙ long-add (b.start - a.start) b.counts zs p in
    omega (arith, e, length-append (replicate (a.start - b.start) 0) a.counts))
    (eq-zero-or-pos (length a.counts)))
    (eq-zero-or-pos (length b.counts))

-- then the row of b joined to it
module _ (a : Row) (j : ℕ) (xs : List ℕ) (b : Row) (k : ℕ) (ys us : List ℕ) (l : Lendable a j xs b k ys us) where
  abbrev F : P.Row
  F = lowered j (row_in a xs)

  abbrev B : P.Row
  B = lowered k (row_in b ys)

  short : length F.counts ≤ length us
  short = omega (arith, joined-grows F B, l.room)

  pub first_lay : Layable a j xs us
  first_lay = record { short = l.short; few = l.few; sums = omega (arith, l.sums); empty = l.empty; room = short }

  module _ (r : Row) (us' : List ℕ) (h : Laid F us r us') where
    long : length us' ≡ length us
    long = ap length h.now ∙ length_over F.counts us short

    front : take r.len us' ≡ F.counts
    front = (λ i. take (h.len i) (h.now i)) ∙ take-over F.counts us

    same : row_in r us' ≡ F
    same = row_path (row_in r us') F h.start front

    pub then-join : Joinable r us' b k ys
    then-join =
        record {
          short = omega (arith, h.len, long, short);
          other = l.other;
          few = l.few_other;
          sums = omega (arith, l.sums, ap total front, total-downscaled j a.start (take a.len xs));
          room = subst (λ (o : P.Row). length (joined o B).counts ≤ length us') (sym same) (omega (arith, l.room, long));
        }

    pub both-laid : (t : Row) (us'' : List ℕ) → Laid (joined (row_in r us') B) us' t us'' → Laid (joined F B) us t us''
    both-laid t us'' g =
        let n : us'' ≡ over (joined F B).counts us =
        g.now ∙ (λ i. over (joined (same i) B).counts (h.now i)) ∙ over-over F.counts (joined F B).counts us (joined-grows F B) in
        record { start = g.start ∙ ap (λ (o : P.Row). (joined o B).start) same; len = g.len ∙ ap (λ (o : P.Row). length (joined o B).counts) same; now = n }
