-- Recording the values of a list one by one from the fresh series gives the point of the list. Assumes nothing.
use Prim.Native.Nat.{ℕ, zero, suc, ◌+◌, ◌^◌, ◌≤◌, ◌<◌}
use mathlib.Core.Path.{◌≡◌, refl, ap, sym, subst, ◌∙◌}
use mathlib.Core.Bool.{true, false}
use mathlib.Core.List.{List, [], ◌∷◌, foldl}
use native.Mathlib.Omega.{arith}
use lib.ListN.{length, take, replicate, length-set, length-replicate}
use lib.Seq.{length-take-le}
use lib.Ieee.{Float, of_bits}
use lib.Ieee.Bits.{is_true}
use lib.Ieee.Scale.{finite}
use borrow.Author.Tests.{eq-eqb}
use Rattle.laws.specs.Pick.{pick}
use Rattle.laws.specs.Lists.{All}
use Rattle.laws.specs.Said.{Said, refusal, success}
use Rattle.exponential.specs.Runs.{next}
use Rattle.laws.specs.Counting.{table}
use Rattle.floats.specs.Starts.{FiniteF64}
use Rattle.floats.proofs.Choices.{finite-chosen}
use Rattle.points.specs.Explicit.{Buckets, bucket_count, bounds_pass, buckets_of, record_bucket, buckets_agree}
use Rattle.points.specs.Values.{Summary, start, noted, summary_of}
use Rattle.points.proofs.Explicit.{record_buckets, buckets-say, buckets-agree, record-buckets-ok, record_buckets-of, buckets_of-ok}
use Rattle.rows.specs.Rows.{over}
use Rattle.rows.proofs.Laws.{take-over, length_over}
use Rattle.explicit.specs.declared.Head.{Head}
use Rattle.explicit.specs.Series.{buckets_in, summary, fresh_head, refusal_of, Outcome, outcome, accepted, recording}
use Rattle.explicit.proofs.Cases.{none}

-- a series: its head and its lent row
pub record Series : Type 0 where
  pub head : Head
  pub counts : List ℕ

-- what a call leaves of the series s
abbrev head_after : Said Head → Head → Head
head_after (success h) old = h
head_after (refusal n) old = old

abbrev pub after : Outcome → Series → Series
after o s = record { head = head_after o.answer s.head; counts = o.counts }

unfoldable pub run_all : List Float → Series → List Float → Series
run_all bounds s [] = s
run_all bounds s (v ∷ vs) = run_all bounds (after (recording bounds s.head s.counts v) s) vs

-- s holds the buckets p and this summary, and agrees
pub record Holds (bounds : List Float) (p : Buckets) (m : Summary) (s : Series) : Type 0 where
  pub rows : buckets_in bounds s.head.count s.counts ≡ p
  pub summary : summary s.head ≡ m
  pub agree : buckets_agree bounds (buckets_in bounds s.head.count s.counts) ≡ true
  pub fin_min : finite s.head.min ≡ true
  pub fin_max : finite s.head.max ≡ true
  pub long : bucket_count bounds ≤ length s.counts

pub accepted-is : (bounds : List Float) (h : Head) (xs : List ℕ) (v : Float) → refusal_of bounds h xs v ≡ 0
    → recording bounds h xs v ≡ accepted (record_bucket bounds (buckets_in bounds h.count xs) v) h xs v
unfolding recording pick
accepted-is bounds h xs v e = rw (eq-eqb (refusal_of bounds h xs v) 0 e)

-- one more in a row laid over the old
module _ (bounds : List Float) (c : ℕ) (xs : List ℕ) (v : Float) (l : bucket_count bounds ≤ length xs) where
  abbrev q : Buckets
  q = record_bucket bounds (buckets_in bounds c xs) v

  pub long-q : length q.counts ≡ bucket_count bounds
  unfolding record_bucket
  long-q = simp length-set (length-take-le (bucket_count bounds) xs l)

  pub reads : buckets_in bounds q.total (over q.counts xs) ≡ q
  reads = λ j. record { counts = (ap (λ n. take n (over q.counts xs)) (sym long-q) ∙ take-over q.counts xs) j; total = q.total }

  pub stays-long : length (over q.counts xs) ≡ length xs
  stays-long = length_over q.counts xs (omega (arith, long-q))

total-one : (bounds : List Float) (p : Buckets) (v : Float) → (record_bucket bounds p v).total ≡ p.total + 1
unfolding record_bucket
total-one bounds p v = refl

not-refused : (bounds : List Float) (p : Buckets) (m : Summary) (s : Series) (v : Float) → Holds bounds p m s → FiniteF64 v → p.total + 1 < 2 ^ 64
    → refusal_of bounds s.head s.counts v ≡ 0
not-refused bounds p m s v h f n =
    let t : s.head.count ≡ p.total = ap (λ (o : Buckets). o.total) h.rows in
    sym (none bounds s.head s.counts v h.long (is_true (finite v) f.known) h.agree h.fin_min h.fin_max (omega (arith, t)))

step : (bounds : List Float) (p : Buckets) (m : Summary) (s : Series) (v : Float) → Holds bounds p m s → FiniteF64 v → p.total + 1 < 2 ^ 64
    → Holds bounds (record_bucket bounds p v) (noted m v) (after (recording bounds s.head s.counts v) s)
step bounds p m s v h f n =
    let xs = s.counts in
    let c = s.head.count in
    let k : finite v ≡ true = is_true (finite v) f.known in
    let z = not-refused bounds p m s v h f n in
    let e : record_bucket bounds (buckets_in bounds c xs) v ≡ record_bucket bounds p v = ap (λ o. record_bucket bounds o v) h.rows in
    let ok = record-buckets-ok bounds (buckets_in bounds c xs) v (buckets-say bounds (buckets_in bounds c xs) h.agree) in
    let r = reads bounds c xs v h.long in
    rw (accepted-is bounds s.head xs v z)
    (record {
      rows = r ∙ e;
      summary = ap (λ m. noted m v) h.summary;
      agree = ap (buckets_agree bounds) r ∙ buckets-agree bounds (record_bucket bounds (buckets_in bounds c xs) v) ok;
      fin_min = finite-chosen true s.head.min v h.fin_min k;
      fin_max = finite-chosen false s.head.max v h.fin_max k;
      long = omega (arith, h.long, stays-long bounds c xs v h.long);
    })

pub run_holds : (bounds vs : List Float) (p : Buckets) (m : Summary) (s : Series) → Holds bounds p m s → All FiniteF64 vs → p.total + length vs < 2 ^ 64
    → Holds bounds (record_buckets bounds p vs) (foldl noted m vs) (run_all bounds s vs)
unfolding run_all All
run_holds bounds [] p m s h g n = h
run_holds bounds (v ∷ vs) p m s h g n =
    run_holds bounds vs (record_bucket bounds p v) (noted m v) (after (recording bounds s.head s.counts v) s)
    (step bounds p m s v h g.0 (omega arith)) g.1 (omega (arith, total-one bounds p v))

-- a series as a call leaves it that was accepted
abbrev left : Series → Outcome
left s = outcome (success s.head) s.counts

-- the calls one after another, each given what the last one left
abbrev pub called : List Float → Outcome → List Float → Outcome
called bounds = foldl (λ o v. next o.answer (λ h. recording bounds h o.counts v) o)

-- all are accepted
run-called : (bounds vs : List Float) (p : Buckets) (m : Summary) (s : Series) → Holds bounds p m s → All FiniteF64 vs → p.total + length vs < 2 ^ 64
    → called bounds (left s) vs ≡ left (run_all bounds s vs)
unfolding run_all All
run-called bounds [] p m s h g n = refl
run-called bounds (v ∷ vs) p m s h g n =
    let o = recording bounds s.head s.counts v in
    let e = accepted-is bounds s.head s.counts v (not-refused bounds p m s v h g.0 (omega arith)) in
    let w : o ≡ left (after o s) = e ∙ ap (λ (x : Outcome). left (after x s)) (sym e) in
    ap (λ (x : Outcome). called bounds x vs) w
    ∙ run-called bounds vs (record_bucket bounds p v) (noted m v) (after o s) (step bounds p m s v h g.0 (omega arith)) g.1 (omega (arith, total-one bounds p v))

-- ---- from the fresh series

pub fin-min : finite start.min ≡ true
unfolding of_bits
fin-min = refl

pub fin-max : finite start.max ≡ true
unfolding of_bits
fin-max = refl

zeros-table : (lo n : ℕ) → replicate n 0 ≡ table (λ j. 0) lo n
zeros-table lo zero = refl
zeros-table lo (suc n) = ap (λ (l : List ℕ). 0 ∷ l) (zeros-table (suc lo) n)

pub fresh-is : (bounds : List Float) (xs : List ℕ) → buckets_in bounds 0 (over (replicate (bucket_count bounds) 0) xs) ≡ buckets_of bounds []
unfolding buckets_of
fresh-is bounds xs =
    let n = bucket_count bounds in
    let z : List ℕ = replicate n 0 in
    λ j. record { counts = (ap (λ k. take k (over (replicate n 0) xs)) (sym (length-replicate {A = ℕ} n 0)) ∙ take-over z xs ∙ zeros-table 0 n) j; total = 0 }

-- the fresh series, of zeros in its row
abbrev pub fresh : List Float → List ℕ → Series
fresh bounds xs = record { head = fresh_head; counts = over (replicate (bucket_count bounds) 0) xs }

fresh_holds : (bounds : List Float) (xs : List ℕ) → bounds_pass bounds ≡ true → bucket_count bounds ≤ length xs → Holds bounds (buckets_of bounds []) start (fresh bounds xs)
fresh_holds bounds xs p l =
    let f = fresh-is bounds xs in
    record {
      rows = f;
      summary = refl;
      agree = ap (buckets_agree bounds) f ∙ buckets-agree bounds (buckets_of bounds []) (buckets_of-ok bounds [] p);
      fin_min = fin-min;
      fin_max = fin-max;
      long = omega (arith, l, length_over (replicate (bucket_count bounds) 0) xs (omega (arith, length-replicate {A = ℕ} (bucket_count bounds) 0)));
    }

-- THE LAW. Recording a list from the fresh series: the point of the list, its extremes and its sum; and each value is accepted
pub run_is : (bounds : List Float) (xs : List ℕ) (vs : List Float) → bounds_pass bounds ≡ true → bucket_count bounds ≤ length xs → All FiniteF64 vs → length vs < 2 ^ 64
    → Holds bounds (buckets_of bounds vs) (summary_of vs) (run_all bounds (fresh bounds xs) vs)
unfolding buckets_of
run_is bounds xs vs p l g n =
    subst (λ (o : Buckets). Holds bounds o (summary_of vs) (run_all bounds (fresh bounds xs) vs)) (record_buckets-of bounds [] vs)
    (run_holds bounds vs (buckets_of bounds []) start (fresh bounds xs) (fresh_holds bounds xs p l) g (omega arith))

pub all-called : (bounds : List Float) (xs : List ℕ) (vs : List Float) → bounds_pass bounds ≡ true → bucket_count bounds ≤ length xs → All FiniteF64 vs → length vs < 2 ^ 64
    → (let s = run_all bounds (fresh bounds xs) vs in
    called bounds (outcome (success fresh_head) (over (replicate (bucket_count bounds) 0) xs)) vs ≡ outcome (success s.head) s.counts)
unfolding buckets_of
all-called bounds xs vs p l g n = run-called bounds vs (buckets_of bounds []) start (fresh bounds xs) (fresh_holds bounds xs p l) g (omega arith)
