-- Agreement is kept by two points of any number that merge. Assumes nothing.
use Prim.Native.Nat.{ℕ, ◌+◌}
use mathlib.Core.Path.{◌≡◌, sym, subst}
use mathlib.Core.Bool.{Bool, true, false, beq}
use lib.Dec.{leb}
use borrow.Author.Tests.{leb-true}
use Rattle.laws.proofs.Bools.{and_left, and_right, and_intro, beq_intro, beq-says}
use Rattle.index.specs.Bins.{finest, lowest_bin}
use Rattle.floats.specs.Answers.{shows}
use Rattle.points.specs.Points.{merge}
use Rattle.points.specs.Explicit.{merge_buckets}
use Rattle.points.specs.Counts.{Counts, exponential_counts, explicit_counts, same_kind, merge_counts, count_of, counts_agree, size_asked}
use Rattle.points.specs.Number.{Number}
use Rattle.points.specs.Any.{Handed, mergeable, merge_handed, shown_as_due, extremes_agree, shown_agrees, handed_agrees}
use Rattle.points.proofs.Agreement.{agrees-says, agreed-agrees}
use Rattle.points.proofs.Kept.{merge-agrees}
use Rattle.points.proofs.Explicit.{buckets-say, buckets-agree, merge-buckets-ok}
use Rattle.points.proofs.Bounds.{same_count}
use Rattle.points.proofs.Counts.{kind-one, merged-count}
use Rattle.points.proofs.Owed.{nearer, Owed}
use Rattle.points.proofs.AnyGrouping.{due-nearer}

abbrev low : ℕ
low = lowest_bin finest

counts-merged : (size : ℕ) (c d : Counts) → size_asked size c d ≡ true → same_kind c d ≡ true
    → counts_agree size finest low c ≡ true → counts_agree size finest low d ≡ true → counts_agree size finest low (merge_counts size c d) ≡ true
counts-merged size (exponential_counts p) (exponential_counts q) s e h k =
    agreed-agrees size finest low (merge size p q)
    (merge-agrees size size size finest finest low p q (leb-true 3 size (and_left (leb 3 size) (leb size 160) s))
    (agrees-says size finest low p h) (agrees-says size finest low q k))
counts-merged size (exponential_counts p) (explicit_counts c q) s e h k = h
counts-merged size (explicit_counts b p) (exponential_counts q) s e h k = h
counts-merged size (explicit_counts b p) (explicit_counts c q) s e h k =
    buckets-agree b (merge_buckets p q) (merge-buckets-ok b c p q (same_count b c e) (buckets-say b p h) (buckets-say c q k))

module _ (N : Number) (O : Owed N) where
  -- extremes shown where they are due, under one switch
  module _ (on : Bool) (m n : ℕ) (a b c d : N.Extreme) (h : shown_as_due N (shows on m) a b ≡ true) (k : shown_as_due N (shows on n) c d ≡ true) where
    each : (up : Bool) (x y : N.Extreme) → beq (N.is_shown x) (shows on m) ≡ true → beq (N.is_shown y) (shows on n) ≡ true
        → beq (N.is_shown (nearer N up x y)) (shows on (m + n)) ≡ true
    each up x y p q =
        beq_intro (N.is_shown (nearer N up x y)) (shows on (m + n))
        (due-nearer N O up on m n x y (beq-says (N.is_shown x) (shows on m) p) (beq-says (N.is_shown y) (shows on n) q))

    due-merged : shown_as_due N (shows on (m + n)) (N.smaller a c) (N.larger b d) ≡ true
    due-merged =
        let s = shows on m in
        let t = shows on n in
        and_intro (beq (N.is_shown (N.smaller a c)) (shows on (m + n))) (beq (N.is_shown (N.larger b d)) (shows on (m + n)))
        (each true a c (and_left (beq (N.is_shown a) s) (beq (N.is_shown b) s) h) (and_left (beq (N.is_shown c) t) (beq (N.is_shown d) t) k))
        (each false b d (and_right (beq (N.is_shown a) s) (beq (N.is_shown b) s) h) (and_right (beq (N.is_shown c) t) (beq (N.is_shown d) t) k))

  extremes-merged : (on : Bool) (m n : ℕ) (a b c d : N.Extreme) → extremes_agree N (shows on m) a b ≡ true → extremes_agree N (shows on n) c d ≡ true
      → extremes_agree N (shows on (m + n)) (N.smaller a c) (N.larger b d) ≡ true
  extremes-merged on m n a b c d h k =
      let s = shown_as_due N (shows on m) a b in
      let t = shown_as_due N (shows on n) c d in
      and_intro (N.finite_or_none (N.smaller a c) (N.larger b d)) (shown_as_due N (shows on (m + n)) (N.smaller a c) (N.larger b d))
      (O.finite-merged a b c d (and_left (N.finite_or_none a b) s h) (and_left (N.finite_or_none c d) t k))
      (due-merged on m n a b c d (and_right (N.finite_or_none a b) s h) (and_right (N.finite_or_none c d) t k))

  -- POINTS THAT AGREE AND MERGE MAKE ONE THAT AGREES
  pub merged-agrees : (size : ℕ) (p q : Handed N) → size_asked size p.counts q.counts ≡ true → mergeable N p q ≡ true
      → handed_agrees N size finest low p ≡ true → handed_agrees N size finest low q ≡ true → handed_agrees N size finest low (merge_handed N size p q) ≡ true
  merged-agrees size p q s e h k =
      let a = counts_agree size finest low p.counts in
      let b = counts_agree size finest low q.counts in
      let m = count_of p.counts in
      let n = count_of q.counts in
      let x = shown_agrees N p in
      let y = shown_agrees N q in
      let alike : same_kind p.counts q.counts ≡ true = and_left (same_kind p.counts q.counts) (beq p.extremes q.extremes) e in
      let on : p.extremes ≡ q.extremes = beq-says p.extremes q.extremes (and_right (same_kind p.counts q.counts) (beq p.extremes q.extremes) e) in
      let count : m + n ≡ count_of (merge_counts size p.counts q.counts) = sym (merged-count size p.counts q.counts (kind-one p.counts q.counts alike)) in
      and_intro (counts_agree size finest low (merge_counts size p.counts q.counts)) (shown_agrees N (merge_handed N size p q))
      (counts-merged size p.counts q.counts s alike (and_left a x h) (and_left b y k))
      (subst (λ l. extremes_agree N (shows p.extremes l) (N.smaller p.min q.min) (N.larger p.max q.max) ≡ true) count
      (extremes-merged p.extremes m n p.min p.max q.min q.max (and_right a x h)
      (subst (λ o. extremes_agree N (shows o n) q.min q.max ≡ true) (sym on) (and_right b y k))))
