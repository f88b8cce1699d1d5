-- What a point's agreement says: its counts agree, and all of it does under a larger max_size; at count 0 it has no extremes. Assumes nothing.
use Prim.Native.Nat.{ℕ, ◌-◌, ◌/◌, ◌^◌, ◌≤◌}
use mathlib.Core.Path.{◌≡◌, ap, subst, ◌∙◌}
use mathlib.Core.Bool.{true, false, beq}
use native.Mathlib.Nat.{le_trans}
use Rattle.laws.proofs.Bools.{and_left, and_right, and_intro, beq-says}
use Rattle.index.specs.Bins.{finest, end_bin}
use Rattle.floats.specs.Answers.{shows}
use Rattle.points.specs.Points.{Row}
use Rattle.points.specs.Counts.{Counts, exponential_counts, explicit_counts, count_of, counts_agree}
use Rattle.points.specs.Number.{Number}
use Rattle.points.specs.Any.{Handed, shown_as_due, extremes_agree, shown_agrees, handed_agrees}
use Rattle.points.proofs.Agreement.{RowOk, agrees-says, agreed-agrees}
use Rattle.points.proofs.Numbers.{shows-none}
use Rattle.points.proofs.Owed.{Owed}

larger-row : (m n low end : ℕ) (r : Row) → m ≤ n → RowOk m low end r → RowOk n low end r
larger-row m n low end r h k =
    record { canonical = k.canonical; short = le_trans k.short h; above = k.above; below = k.below }

larger-counts : (m n low : ℕ) (c : Counts) → m ≤ n → counts_agree m finest low c ≡ true → counts_agree n finest low c ≡ true
larger-counts m n low (exponential_counts p) h a =
    let k = agrees-says m finest low p a in
    agreed-agrees n finest low p
    (record {
      fine = k.fine;
      coarse = k.coarse;
      pos = larger-row m n (low / 2 ^ p.d) (end_bin (finest - p.d)) p.pos h k.pos;
      neg = larger-row m n (low / 2 ^ p.d) (end_bin (finest - p.d)) p.neg h k.neg;
      adds = k.adds;
    })
larger-counts m n low (explicit_counts b p) h a = a

module _ (N : Number) where
  pub counts-agree : (size low : ℕ) (p : Handed N) → handed_agrees N size finest low p ≡ true → counts_agree size finest low p.counts ≡ true
  counts-agree size low p a = and_left (counts_agree size finest low p.counts) (shown_agrees N p) a

  shown-agree : (size low : ℕ) (p : Handed N) → handed_agrees N size finest low p ≡ true → shown_agrees N p ≡ true
  shown-agree size low p a = and_right (counts_agree size finest low p.counts) (shown_agrees N p) a

  pub larger : (m n low : ℕ) (p : Handed N) → m ≤ n → handed_agrees N m finest low p ≡ true → handed_agrees N n finest low p ≡ true
  larger m n low p h a =
      and_intro (counts_agree n finest low p.counts) (shown_agrees N p) (larger-counts m n low p.counts h (counts-agree m low p a)) (shown-agree m low p a)

  -- ---- at count 0
  module _ (O : Owed N) where
    none-there : (a b : N.Extreme) → extremes_agree N false a b ≡ true → (a ≡ N.none) × (b ≡ N.none)
    none-there a b h =
        let t = and_right (N.finite_or_none a b) (shown_as_due N false a b) h in
        let l = beq (N.is_shown a) false in
        let r = beq (N.is_shown b) false in
        (O.unshown a (beq-says (N.is_shown a) false (and_left l r t)), O.unshown b (beq-says (N.is_shown b) false (and_right l r t)))

    pub empty-shows : (size low : ℕ) (p : Handed N) → handed_agrees N size finest low p ≡ true → count_of p.counts ≡ 0 → (p.min ≡ N.none) × (p.max ≡ N.none)
    empty-shows size low p a z =
        none-there p.min p.max
        (subst (λ d. extremes_agree N d p.min p.max ≡ true) (ap (shows p.extremes) z ∙ shows-none p.extremes) (shown-agree size low p a))
