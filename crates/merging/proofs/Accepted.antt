-- Points that agree, of one kind, switch and threshold, are merged by code wherever there is room, their counts together are no more than a count
-- can be, and the sum is not refused; and what is left agrees. Assumes nothing.
use Prim.Native.Nat.{ℕ, ◌+◌, ◌≤◌}
use mathlib.Core.Path.{◌≡◌, refl, ap, sym, subst, ◌∙◌}
use mathlib.Core.Bool.{true, beq, ◌&&◌}
use mathlib.Core.List.{List}
use native.Mathlib.Omega.{arith}
use lib.Dec.{leb}
use lib.ListN.{length}
use borrow.Author.Tests.{le-leb}
use Rattle.laws.specs.Pick.{pick}
use Rattle.laws.specs.Said.{Said, success}
use Rattle.laws.specs.Counting.{most_count}
use Rattle.laws.proofs.Bools.{and_intro, beq_intro}
use Rattle.index.specs.Bins.{finest, lowest_bin}
use Rattle.points.specs.Explicit.{same_bounds, bucket_count}
use Rattle.points.specs.Counts.{Kind, exponential, explicit, Settings, Counts, exponential_counts, explicit_counts, count_of, same_kind, merge_counts, counts_agree, size_asked, merge_number, resized, Shape}
use Rattle.points.specs.Number.{Number}
use Rattle.points.specs.Any.{Handed, mergeable, merge_handed, handed_agrees, Of}
use Rattle.points.specs.Coded.{Coded}
use Rattle.points.proofs.Agreement.{agrees-says}
use Rattle.points.proofs.Explicit.{buckets-say, same-bounds}
use Rattle.points.proofs.Counts.{kind-one, merged-count}
use Rattle.points.proofs.Owed.{Owed}
use Rattle.points.proofs.Larger.{counts-agree}
use Rattle.points.proofs.AnyGrouping.{known, of-known, handed_commutes}
use Rattle.kinds.proofs.Steady.{merged-agrees}
use Rattle.point.specs.Lists.{Configured, Long}
use Rattle.point.proofs.Answers.{has_room}
use Rattle.merging.specs.Merged.{Good}
use Rattle.merging.proofs.Owed.{before, Merges}

abbrev pub low : ℕ
low = lowest_bin finest

-- ---- over counts of one kind
same_kind_lem : (size : ℕ) (k : Kind) (c d : Counts) → Shape k c → Shape k d → counts_agree size finest low c ≡ true → same_kind c d ≡ true
same_kind_lem size (exponential m top) (exponential_counts p) (exponential_counts q) h k a = refl
same_kind_lem size (exponential m top) (exponential_counts p) (explicit_counts b q) h k a = absurd k
same_kind_lem size (exponential m top) (explicit_counts b p) d h k a = absurd h
same_kind_lem size (explicit b) (exponential_counts p) d h k a = absurd h
same_kind_lem size (explicit b) (explicit_counts c p) (exponential_counts q) h k a = absurd k
same_kind_lem size (explicit b) (explicit_counts c p) (explicit_counts d q) h k a =
    subst (λ e. same_bounds c e ≡ true) (h ∙ sym k) (same-bounds c (buckets-say c p a).passes)

roomy : (size : ℕ) (k : Kind) (c : Counts) (us vs : List ℕ) → Shape k c → counts_agree size finest low c ≡ true → Long (resized size k) us vs → has_room c us vs ≡ true
roomy size (exponential m top) (exponential_counts p) us vs h a l =
    let k = agrees-says size finest low p a in
    and_intro (leb (length p.pos.counts) (length us)) (leb (length p.neg.counts) (length vs))
    (le-leb (length p.pos.counts) (length us) (omega (arith, k.pos.short, l.0)))
    (le-leb (length p.neg.counts) (length vs) (omega (arith, k.neg.short, l.1)))
roomy size (exponential m top) (explicit_counts b p) us vs h a l = absurd h
roomy size (explicit b) (exponential_counts p) us vs h a l = absurd h
roomy size (explicit b) (explicit_counts c p) us vs h a l =
    and_intro (leb (length p.counts) (length us)) (leb 0 (length vs))
    (le-leb (length p.counts) (length us) (omega (arith, (buckets-say c p a).whole, ap bucket_count h, l)))
    (le-leb 0 (length vs) (omega arith))

-- ---- the size, by the kind
size-asked : (size : ℕ) (k : Kind) (c d : Counts) → Configured (resized size k) → Shape k c → Shape k d → size_asked size c d ≡ true
size-asked size (exponential m top) (exponential_counts p) d e h j = e
size-asked size (exponential m top) (explicit_counts b p) d e h j = absurd h
size-asked size (explicit b) (exponential_counts p) d e h j = absurd h
size-asked size (explicit b) (explicit_counts c p) (exponential_counts q) e h j = absurd j
size-asked size (explicit b) (explicit_counts c p) (explicit_counts d q) e h j = refl

module _ {N : Number} (O : Owed N) (C : Coded N) where
  -- ---- what a good point is known to be
  pub counts-ok : (size : ℕ) (s : Settings) (x : C.Stored) → Good C size s x → counts_agree size finest low (C.handed_in x).counts ≡ true
  counts-ok size s x g = counts-agree N size low (C.handed_in x) g.agree

  -- what a merge leaves: a good point of both counts and sums
  pub record Left (size : ℕ) (s : Settings) (n : ℕ) (v : N.Value) (o : Said C.Stored) : Type 0 where
    pub left : C.Stored
    pub is : o ≡ success left
    pub good : Good C size s left
    pub count : count_of (C.handed_in left).counts ≡ n
    pub sum : (C.handed_in left).sum ≡ v

  module _ (M : Merges C) (size : ℕ) (s : Settings) (sized : Configured (resized size s.kind)) (x y : C.Stored) (g : Good C size s x) (h : Good C size s y)
      (few : count_of (C.handed_in x).counts + count_of (C.handed_in y).counts ≤ most_count) (within : N.beyond (C.handed_in x).sum (C.handed_in y).sum ≡ 0)
      (us vs : List ℕ) (long : Long (resized size s.kind) us vs) where
    abbrev p : Handed N
    p = C.handed_in x

    abbrev q : Handed N
    q = C.handed_in y

    alike : same_kind p.counts q.counts ≡ true
    alike = same_kind_lem size s.kind p.counts q.counts g.of.shape h.of.shape (counts-ok size s x g)

    can : mergeable N p q ≡ true
    can =
        and_intro (same_kind p.counts q.counts) (beq p.extremes q.extremes) alike
        (beq_intro p.extremes q.extremes (g.of.same.extremes ∙ sym h.of.same.extremes))

    asked : size_asked size p.counts q.counts ≡ true
    asked = size-asked size s.kind p.counts q.counts sized g.of.shape h.of.shape

    agree : handed_agrees N size finest low (merge_handed N size p q) ≡ true
    agree = merged-agrees N O size p q asked can g.agree h.agree

    of : Of N s (merge_handed N size p q)
    of = of-known N O s (merge_handed N size p q) ((handed_commutes N O size s).kept p q (known N O s p g.of) (known N O s q h.of))

    room : has_room (merge_counts size p.counts q.counts) us vs ≡ true
    room = roomy size s.kind (merge_counts size p.counts q.counts) us vs of.shape (counts-agree N size low (merge_handed N size p q) agree) long

    free : before C size x y ≡ 0
    unfolding pick
    free =
        let n : leb (count_of p.counts + count_of q.counts) most_count ≡ true = le-leb (count_of p.counts + count_of q.counts) most_count few in
        λ t. merge_number (asked t) ((g.shape t && h.shape t) && (g.agree t && h.agree t)) (can t) (n t) (within t)

    sum_is : count_of (merge_handed N size p q).counts ≡ count_of p.counts + count_of q.counts
    sum_is = merged-count size p.counts q.counts (kind-one p.counts q.counts alike)

    pub merges : Left size s (count_of p.counts + count_of q.counts) (N.add p.sum q.sum) (C.merging size x y us vs)
    merges =
        let m = M.leaves size x y us vs free room in
        record {
          left = m.left;
          is = m.is;
          good = record {
            shape = m.shape;
            agree = subst (λ r. handed_agrees N size finest low r ≡ true) (sym m.reads) agree;
            of = subst (Of N s) (sym m.reads) of;
          };
          count = ap (λ r. count_of r.counts) m.reads ∙ sum_is;
          sum = ap (λ r. r.sum) m.reads;
        }
