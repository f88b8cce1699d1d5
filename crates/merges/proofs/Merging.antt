-- Two series merged by their plan are what the definition says. Assumes nothing.
use Prim.Native.Nat.{ℕ, ◌+◌, ◌-◌, ◌^◌, ◌≤◌, ◌<◌, min, max}
use mathlib.Core.Path.{◌≡◌, ap, sym, subst, ◌∙◌}
use mathlib.Core.Logic.{⊎_elim}
use mathlib.Core.List.{List}
use native.Mathlib.Omega.{arith}
use lib.ListN.{length, take}
use lib.Seq.{length-take-le}
use Rattle.laws.specs.Counting.{total}
use Rattle.index.specs.Bins.{finest, lowest_bin, end_bin}
use Rattle.points.specs.Points as P
use Rattle.points.specs.Points.{Point}
use Rattle.rows.specs.Rows.{over}
use Rattle.rows.specs.declared.Row.{Row}
use Rattle.rows.proofs.Algebra.{le_or-lt}
use Rattle.exponential.specs.declared.Counts.{Counts}
use Rattle.exponential.specs.Steps.{lowered}
use Rattle.exponential.specs.Series.{lowest_of_all, row_in, read}
use Rattle.exponential.specs.Inner.{Laid, Written}
use Rattle.exponential.proofs.Facts.{Agreed, agreed, pos-facts, neg-facts, level_in}
use Rattle.exponential.proofs.Write.{level_pow}
use Rattle.exponential.proofs.Rowed.{range}
use Rattle.merges.specs.Merges.{joined, joined_len, common, span_of, rows_low, plan_of, Lendable, Agreeing, merged_point, Roomy}
use Rattle.merges.proofs.Joined.{levelled, span, merged_low, merged_steps}
use Rattle.merges.specs.declared.Plan.{Plan}
use Rattle.merges.proofs.Joined as J
use Rattle.merges.proofs.Spans.{span-is, len_is}

-- ---- the plan, of any two series

pub plan_law : (size : ℕ) (a b : Counts) (l p n low : ℕ) → l ≡ common a b
    → p ≡ span_of size a.pos (a.level - l) b.pos (b.level - l) → n ≡ span_of size a.neg (a.level - l) b.neg (b.level - l) → low ≡ max p n
    → low ≡ rows_low size a b
unfolding rows_low
plan_law size a b l p n low e f g h =
    h ∙ (λ i. max (f i) (g i))
    ∙ ap (λ l. max (span_of size a.pos (a.level - l) b.pos (b.level - l)) (span_of size a.neg (a.level - l) b.neg (b.level - l))) e

pub plan-made : (size : ℕ) (a b : Counts) (l low : ℕ) → l ≡ common a b → low ≡ rows_low size a b
    → ◌≡◌ {A = Plan} (record { level = l - low; first = a.level - (l - low); second = b.level - (l - low) }) (plan_of size a b)
unfolding plan_of
plan-made size a b l low e f = λ i. record { level = e i - f i; first = a.level - (e i - f i); second = b.level - (e i - f i) }

-- levels and steps below the finest
steps_first : (m n : ℕ) → m ≤ finest → n ≤ finest → max (finest - m) (finest - n) - (finest - m) ≡ m - min m n
steps_first m n h g =
    ⊎_elim
    (λ (l : m ≤ n). let e : min m n ≡ m = omega arith in rw e (omega arith))
    (λ (l : n < m). let e : min m n ≡ n = omega arith in let f : max (finest - m) (finest - n) ≡ finest - n = omega arith in rw (e, f) (omega arith))
    (le_or-lt m n)

steps-second : (m n : ℕ) → m ≤ finest → n ≤ finest → max (finest - m) (finest - n) - (finest - n) ≡ n - min m n
steps-second m n h g =
    ⊎_elim
    (λ (l : m ≤ n). let e : min m n ≡ m = omega arith in let f : max (finest - m) (finest - n) ≡ finest - m = omega arith in rw (e, f) (omega arith))
    (λ (l : n < m). let e : min m n ≡ n = omega arith in rw e (omega arith))
    (le_or-lt m n)

steps-common : (m n : ℕ) → m ≤ finest → n ≤ finest → max (finest - m) (finest - n) ≡ finest - min m n
steps-common m n h g =
    ⊎_elim
    (λ (l : m ≤ n). let e : min m n ≡ m = omega arith in rw e (omega arith))
    (λ (l : n < m). let e : min m n ≡ n = omega arith in rw e (omega arith))
    (le_or-lt m n)

steps-to : (m c low : ℕ) → m ≤ finest → c ≤ m → low ≤ c → finest - c + low - (finest - m) ≡ m - (c - low)
steps-to m c low h g l = omega arith

level-to : (c low : ℕ) → c ≤ finest → low ≤ c → c - low ≡ finest - (finest - c + low)
level-to c low h l = omega arith

under : (c low : ℕ) → c ≤ finest → finest - c + low ≤ finest → low ≤ c
under c low h l = omega arith

empty-start : (r : Row) (xs : List ℕ) → r.len ≤ length xs → (length (take r.len xs) ≡ 0 → r.start ≡ 0) → r.len ≡ 0 → r.start ≡ 0
empty-start r xs h f z = f (length-take-le r.len xs h ∙ z)

-- ---- two series that agree

module _ (size : ℕ) (a : Counts) (xs ys : List ℕ) (b : Counts) (zs ws : List ℕ) (g : Agreeing size a xs ys b zs ws) where
  abbrev p : Point
  p = read a xs ys

  abbrev q : Point
  q = read b zs ws

  ka : Agreed size finest a xs ys
  ka = agreed size finest a xs ys g.first

  kb : Agreed size finest b zs ws
  kb = agreed size finest b zs ws g.second

  la : a.level ≤ finest
  la = level_in size finest a xs ys ka

  lb : b.level ≤ finest
  lb = level_in size finest b zs ws kb

  -- both signs' rows need what the numbers say
  pub low-is : merged_low size p q ≡ rows_low size a b
  unfolding merged_low rows_low
  low-is =
      (λ i. max
      (span size (joined (lowered (steps_first a.level b.level la lb i) (row_in a.pos xs)) (lowered (steps-second a.level b.level la lb i) (row_in b.pos zs))))
      (span size (joined (lowered (steps_first a.level b.level la lb i) (row_in a.neg ys)) (lowered (steps-second a.level b.level la lb i) (row_in b.neg ws)))))
      ∙ (λ i. max
      (span-is a.pos xs (a.level - common a b) b.pos zs (b.level - common a b) ka.pos_there kb.pos_there size i)
      (span-is a.neg ys (a.level - common a b) b.neg ws (b.level - common a b) ka.neg_there kb.neg_there size i))

  -- how far below the finest level the merged point is
  abbrev e : ℕ
  e = finest - common a b + rows_low size a b

  e-is : max p.d q.d + merged_low size p q ≡ e
  e-is = λ i. steps-common a.level b.level la lb i + low-is i

  pub low-le : rows_low size a b ≤ common a b
  low-le =
      under (common a b) (rows_low size a b) (omega (arith, la)) (subst (λ (n : ℕ). n ≤ finest) e-is (J.level-le size finest lowest_of_all p q ka.least ka.point kb.point))

  first-is : e - p.d ≡ (plan_of size a b).first
  unfolding plan_of
  first-is = steps-to a.level (common a b) (rows_low size a b) la (omega arith) low-le

  second_is : e - q.d ≡ (plan_of size a b).second
  unfolding plan_of
  second_is = steps-to b.level (common a b) (rows_low size a b) lb (omega arith) low-le

  -- the merged point's level and rows
  steps : merged_steps size p q ≡ merged_point size a xs ys b zs ws
  steps = J.merged-is size finest lowest_of_all p q ka.least ka.point kb.point

  pub level-made : (plan_of size a b).level ≡ finest - (merged_point size a xs ys b zs ws).d
  unfolding plan_of merged_steps
  level-made =
      level-to (common a b) (rows_low size a b) (omega (arith, la)) low-le
      ∙ ap (λ n. finest - n) (sym e-is ∙ ap (λ (o : Point). o.d) steps)

  abbrev row_of : Row → List ℕ → Row → List ℕ → P.Row
  row_of r us t vs = joined (lowered (plan_of size a b).first (row_in r us)) (lowered (plan_of size a b).second (row_in t vs))

  at_level : (r : Row) (us : List ℕ) (t : Row) (vs : List ℕ)
      → levelled (max p.d q.d + merged_low size p q) p (row_in r us) q (row_in t vs) ≡ row_of r us t vs
  at_level r us t vs =
      ap (λ n. levelled n p (row_in r us) q (row_in t vs)) e-is
      ∙ (λ i. joined (lowered (first-is i) (row_in r us)) (lowered (second_is i) (row_in t vs)))

  pub pos-made : row_of a.pos xs b.pos zs ≡ (merged_point size a xs ys b zs ws).pos
  unfolding merged_steps
  pos-made = sym (at_level a.pos xs b.pos zs) ∙ ap (λ (o : Point). o.pos) steps

  pub neg-made : row_of a.neg ys b.neg ws ≡ (merged_point size a xs ys b zs ws).neg
  unfolding merged_steps
  neg-made = sym (at_level a.neg ys b.neg ws) ∙ ap (λ (o : Point). o.neg) steps

  -- and how long the rows are, by numbers
  pub pos-length : joined_len a.pos (plan_of size a b).first b.pos (plan_of size a b).second ≡ length (merged_point size a xs ys b zs ws).pos.counts
  pos-length = sym (len_is a.pos xs (plan_of size a b).first b.pos zs (plan_of size a b).second ka.pos_there kb.pos_there) ∙ ap (λ (r : P.Row). length r.counts) pos-made

  pub neg-length : joined_len a.neg (plan_of size a b).first b.neg (plan_of size a b).second ≡ length (merged_point size a xs ys b zs ws).neg.counts
  neg-length = sym (len_is a.neg ys (plan_of size a b).first b.neg ws (plan_of size a b).second ka.neg_there kb.neg_there) ∙ ap (λ (r : P.Row). length r.counts) neg-made

  -- ---- what the code needs

  pub first-few : (plan_of size a b).first < 32
  first-few = omega (arith, first-is, J.level-le size finest lowest_of_all p q ka.least ka.point kb.point, e-is)

  pub second-few : (plan_of size a b).second < 32
  second-few = omega (arith, second_is, J.level-le size finest lowest_of_all p q ka.least ka.point kb.point, e-is)

  sums-pos : total (take a.pos.len xs) + total (take b.pos.len zs) < 2 ^ 64
  sums-pos = omega (arith, ka.point.adds, kb.point.adds, g.count)

  sums-neg : total (take a.neg.len ys) + total (take b.neg.len ws) < 2 ^ 64
  sums-neg = omega (arith, ka.point.adds, kb.point.adds, g.count)

  pub zeros-fit : a.zeros + b.zeros < 2 ^ 64
  zeros-fit = omega (arith, ka.point.adds, kb.point.adds, g.count)

  pub plannable : ((0 < size) × (a.level ≤ finest) × (b.level ≤ finest))
      × (((a.pos.start + a.pos.len < 2 ^ 32) × (b.pos.start + b.pos.len < 2 ^ 32))
      × (((a.neg.start + a.neg.len < 2 ^ 32) × (b.neg.start + b.neg.len < 2 ^ 32)) × (rows_low size a b ≤ common a b)))
  plannable =
      let pa = level_pow a.level la in
      let pb = level_pow b.level lb in (
        (omega (arith, ka.least), la, lb),
        (
          (omega (arith, pa, range size (lowest_bin a.level) (end_bin a.level) a.pos xs (pos-facts size finest a xs ys ka)), omega (arith, pb, range size (lowest_bin b.level) (end_bin b.level) b.pos zs (pos-facts size finest b zs ws kb))),
          ((omega (arith, pa, range size (lowest_bin a.level) (end_bin a.level) a.neg ys (neg-facts size finest a xs ys ka)), omega (arith, pb, range size (lowest_bin b.level) (end_bin b.level) b.neg ws (neg-facts size finest b zs ws kb))), low-le),
        ),
      )

  -- into lent rows
  module _ (us vs : List ℕ) (r : Roomy (merged_point size a xs ys b zs ws) us vs) where
    pub lendable-pos : Lendable a.pos (plan_of size a b).first xs b.pos (plan_of size a b).second zs us
    lendable-pos =
        record { short = ka.pos_there; other = kb.pos_there; few = first-few; few_other = second-few; sums = sums-pos; empty = λ z. empty-start a.pos xs ka.pos_there ka.point.pos.canonical.empty z; room = subst (λ (o : P.Row). length o.counts ≤ length us) (sym pos-made) r.pos }

    pub lendable-neg : Lendable a.neg (plan_of size a b).first ys b.neg (plan_of size a b).second ws vs
    lendable-neg =
        record { short = ka.neg_there; other = kb.neg_there; few = first-few; few_other = second-few; sums = sums-neg; empty = λ z. empty-start a.neg ys ka.neg_there ka.point.neg.canonical.empty z; room = subst (λ (o : P.Row). length o.counts ≤ length vs) (sym neg-made) r.neg }

  total-is : a.count + b.count ≡ (merged_point size a xs ys b zs ws).total
  unfolding merged_steps
  total-is = ap (λ (o : Point). o.total) steps

  zeros-is : a.zeros + b.zeros ≡ (merged_point size a xs ys b zs ws).zeros
  unfolding merged_steps
  zeros-is = ap (λ (o : Point). o.zeros) steps

  -- WHAT IS WRITTEN over us and vs
  pub written : (to : Plan) (us vs us' vs' : List ℕ) (r t : Row) → to ≡ plan_of size a b
      → Laid (joined (lowered to.first (row_in a.pos xs)) (lowered to.second (row_in b.pos zs))) us r us'
      → Laid (joined (lowered to.first (row_in a.neg ys)) (lowered to.second (row_in b.neg ws))) vs t vs'
      → Written (merged_point size a xs ys b zs ws) us vs (record { count = a.count + b.count; zeros = a.zeros + b.zeros; level = to.level; pos = r; neg = t }) us' vs'
  written to us vs us' vs' r t h lp ln =
      let m = merged_point size a xs ys b zs ws in
      let sp : joined (lowered to.first (row_in a.pos xs)) (lowered to.second (row_in b.pos zs)) ≡ m.pos =
      (λ i. joined (lowered (h i).first (row_in a.pos xs)) (lowered (h i).second (row_in b.pos zs))) ∙ pos-made in
      let sn : joined (lowered to.first (row_in a.neg ys)) (lowered to.second (row_in b.neg ws)) ≡ m.neg =
      (λ i. joined (lowered (h i).first (row_in a.neg ys)) (lowered (h i).second (row_in b.neg ws))) ∙ neg-made in
      let dl : to.level ≡ finest - m.d = ap (λ (o : Plan). o.level) h ∙ level-made in
      let sp₁ : r.start ≡ m.pos.start = lp.start ∙ ap (λ (o : P.Row). o.start) sp in
      let sp₂ : r.len ≡ length m.pos.counts = lp.len ∙ ap (λ (o : P.Row). length o.counts) sp in
      let sn₁ : t.start ≡ m.neg.start = ln.start ∙ ap (λ (o : P.Row). o.start) sn in
      let sn₂ : t.len ≡ length m.neg.counts = ln.len ∙ ap (λ (o : P.Row). length o.counts) sn in
      record {
        counts = λ i. record {
          count = total-is i;
          zeros = zeros-is i;
          level = dl i;
          pos = record { start = sp₁ i; len = sp₂ i };
          neg = record { start = sn₁ i; len = sn₂ i };
        };
        pos = lp.now ∙ ap (λ (o : P.Row). over o.counts us) sp;
        neg = ln.now ∙ ap (λ (o : P.Row). over o.counts vs) sn;
      }
