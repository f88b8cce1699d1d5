-- Merging points of any number by any grouping and order, of one kind, switch and zero threshold: the same scale, rows, counts and extremes,
-- a zero's sign aside; the fresh point changes nothing but the sum. Assumes nothing.
use Prim.Native.Nat.{ℕ, zero, suc, ◌+◌}
use mathlib.Core.Path.{◌≡◌, refl, ap, sym, subst, ◌∙◌}
use mathlib.Core.Bool.{Bool, true, false, ◌||◌}
use mathlib.Core.List.{[], Permᴰ}
use native.Mathlib.Nat.{zero-add, suc-add}
use Rattle.laws.specs.Pick.{pick}
use Rattle.laws.specs.Lists.{All}
use Rattle.laws.specs.Trees.{Tree, leaves}
use Rattle.laws.proofs.Trees.{Commutes, any_grouping, folded}
use Rattle.floats.specs.Answers.{shows}
use Rattle.points.specs.Counts.{Settings, Counts, kind_counts, count_of, merge_counts, Shape}
use Rattle.points.specs.Number.{Number}
use Rattle.points.specs.Any.{start, Handed, shown_if, handed, merge_handed, Same, with_sum, Of}
use Rattle.points.proofs.Counts.{count-is, shape_one, merged-count, shape-kept, counts-comm, counts-assoc, Agreeing, counts-fresh, shape_of}
use Rattle.points.proofs.Numbers.{shows-none, shows-some}
use Rattle.points.proofs.Owed.{nearer, Owed}

-- ---- two counts together are 0 where both are
either-shows : (on : Bool) (m n : ℕ) → shows on m || shows on n ≡ shows on (m + n)
either-shows false m n = refl
either-shows true zero n = ap (shows true) (sym (zero-add n))
either-shows true (suc m) n = ap (λ b. b || shows true n) (shows-some true m) ∙ sym (ap (shows true) (suc-add m n) ∙ shows-some true (m + n))

module _ (N : Number) (O : Owed N) where
  -- ---- an extreme that is there just where it is due
  pub record Shown (due : Bool) (e : N.Extreme) : Type 0 where
    pub known : O.Numeric e
    pub is : N.is_shown e ≡ due

  shown_of : (due : Bool) (e : N.Extreme) (x : N.Value) → N.SameExtreme e (shown_if N due x) → Shown due e
  shown_of due e x h = let r = O.shown_of due e x h in record { known = r.0; is = r.1 }

  pub due-nearer : (up on : Bool) (m n : ℕ) (a b : N.Extreme) → N.is_shown a ≡ shows on m → N.is_shown b ≡ shows on n → N.is_shown (nearer N up a b) ≡ shows on (m + n)
  due-nearer up on m n a b p q = O.either-shown up a b ∙ (λ j. p j || q j) ∙ either-shows on m n

  shown-nearer : (up on : Bool) (m n : ℕ) (a b : N.Extreme) → Shown (shows on m) a → Shown (shows on n) b → Shown (shows on (m + n)) (nearer N up a b)
  shown-nearer up on m n a b p q = record { known = O.numeric-nearer up a b p.known q.known; is = due-nearer up on m n a b p.is q.is }

  module _ {d : Bool} {a : N.Extreme} (p : Shown d a) where
    shown-self : N.SameExtreme a a
    shown-self = O.numeric-self a p.known

    module _ (up : Bool) {e : Bool} {b : N.Extreme} (q : Shown e b) where
      nearer-comm : N.SameExtreme (nearer N up a b) (nearer N up b a)
      nearer-comm = O.numeric-comm up a b p.known q.known

      nearer-assoc : {f : Bool} {c : N.Extreme} → Shown f c → N.SameExtreme (nearer N up (nearer N up a b) c) (nearer N up a (nearer N up b c))
      nearer-assoc {f} {c} r =
          subst (N.SameExtreme (nearer N up (nearer N up a b) c)) (O.numeric-assoc up a b c p.known q.known r.known)
          (O.numeric-self (nearer N up (nearer N up a b) c) (O.numeric-nearer up (nearer N up a b) c (O.numeric-nearer up a b p.known q.known) r.known))

  -- ---- points of the settings
  -- whether a point of the settings shows its extremes
  abbrev due : Settings → Handed N → Bool
  due s p = shows s.extremes (count_of p.counts)

  -- what is known of a point of the settings: its kind and bounds, switch and zero threshold, and extremes as the switch and its count have them
  pub record Known (s : Settings) (p : Handed N) : Type 0 where
    pub shape : Shape s.kind p.counts
    pub extremes : p.extremes ≡ s.extremes
    pub threshold : p.threshold ≡ s.threshold
    pub min : Shown (due s p) p.min
    pub max : Shown (due s p) p.max

  pub known : (s : Settings) (p : Handed N) → Of N s p → Known s p
  known s p o =
      record {
        shape = o.shape;
        extremes = o.same.extremes;
        threshold = o.same.threshold;
        min = shown_of (due s p) p.min o.shown.min o.same.min;
        max = shown_of (due s p) p.max o.shown.max o.same.max;
      }

  pub of-known : (s : Settings) (p : Handed N) → Known s p → Of N s p
  of-known s p k =
      record {
        shape = k.shape;
        shown = record { min = O.number_in p.min; max = O.number_in p.max; sum = N.zero };
        same = record {
          counts = refl;
          extremes = k.extremes;
          threshold = k.threshold;
          min = O.of-shown (due s p) p.min k.min.known k.min.is;
          max = O.of-shown (due s p) p.max k.max.known k.max.is;
        };
      }

  -- ---- COMMUTATIVE AND ASSOCIATIVE
  pub handed_commutes : (size : ℕ) (s : Settings) → Commutes (merge_handed N size) (Known s) (Same N)
  handed_commutes size s =
      record {
        kept = λ a b p q. record {
          shape = shape-kept size s.kind a.counts b.counts p.shape q.shape;
          extremes = p.extremes;
          threshold = p.threshold;
          min = due-kept true a b a.min b.min p.shape q.shape p.min q.min;
          max = due-kept false a b a.max b.max p.shape q.shape p.max q.max;
        };
        self = λ a p. record { counts = refl; extremes = refl; threshold = refl; min = shown-self p.min; max = shown-self p.max };
        turn = λ a b h. record {
          counts = sym h.counts;
          extremes = sym h.extremes;
          threshold = sym h.threshold;
          min = O.extreme-turn a.min b.min h.min;
          max = O.extreme-turn a.max b.max h.max;
        };
        then = λ a b c h k. record {
          counts = h.counts ∙ k.counts;
          extremes = h.extremes ∙ k.extremes;
          threshold = h.threshold ∙ k.threshold;
          min = O.extreme-trans a.min b.min c.min h.min k.min;
          max = O.extreme-trans a.max b.max c.max h.max k.max;
        };
        cong = λ a b c d p q r t h k. record {
          counts = ap (λ x. merge_counts size x b.counts) h.counts ∙ ap (merge_counts size c.counts) k.counts;
          extremes = h.extremes;
          threshold = h.threshold;
          min = O.nearer-cong true a.min b.min c.min d.min h.min k.min;
          max = O.nearer-cong false a.max b.max c.max d.max h.max k.max;
        };
        comm = λ a b p q. record {
          counts = counts-comm size s.kind a.counts b.counts p.shape q.shape;
          extremes = p.extremes ∙ sym q.extremes;
          threshold = p.threshold ∙ sym q.threshold;
          min = nearer-comm p.min true q.min;
          max = nearer-comm p.max false q.max;
        };
        assoc = λ a b c p q r. record {
          counts = counts-assoc size s.kind a.counts b.counts c.counts p.shape q.shape r.shape;
          extremes = refl;
          threshold = refl;
          min = nearer-assoc p.min true q.min r.min;
          max = nearer-assoc p.max false q.max r.max;
        };
      }
    where
      due-kept : (up : Bool) (a b : Handed N) (x y : N.Extreme) → Shape s.kind a.counts → Shape s.kind b.counts
          → Shown (due s a) x → Shown (due s b) y → Shown (shows s.extremes (count_of (merge_counts size a.counts b.counts))) (nearer N up x y)
      due-kept up a b x y h k p q =
          subst (λ n. Shown (shows s.extremes n) (nearer N up x y))
          (sym (merged-count size a.counts b.counts (shape_one s.kind a.counts b.counts h k)))
          (shown-nearer up s.extremes (count_of a.counts) (count_of b.counts) x y p q)

  -- BY ANY GROUPING AND ORDER
  pub merge-any : (size : ℕ) (s : Settings) (t u : Tree (Handed N)) → Permᴰ (leaves t) (leaves u) → All (Known s) (leaves t)
      → Same N (folded (merge_handed N size) t) (folded (merge_handed N size) u)
  merge-any size s t u h p = any_grouping (merge_handed N size) (Known s) (Same N) (handed_commutes size s) t u h p

  -- ---- THE FRESH POINT CHANGES NOTHING BUT THE SUM, in a point that agrees
  -- it shows no extreme, and its sum is 0
  fresh-sum : (on : Bool) → pick on (start N).sum N.zero ≡ N.zero
  unfolding pick
  fresh-sum true = refl
  fresh-sum false = refl

  abbrev empty : Settings → Counts
  empty s = kind_counts s.kind s.threshold []

  pub fresh-is : (s : Settings)
      → handed N s [] ≡ record { counts = empty s; extremes = s.extremes; threshold = s.threshold; min = N.none; max = N.none; sum = N.zero }
  unfolding pick
  fresh-is s =
      let c : kind_counts s.kind s.threshold (N.nears []) ≡ empty s = ap (kind_counts s.kind s.threshold) O.nears-none in
      let e : shows s.extremes (count_of (kind_counts s.kind s.threshold (N.nears []))) ≡ false =
      ap (λ x. shows s.extremes (count_of x)) c ∙ ap (shows s.extremes) (count-is s.kind s.threshold []) ∙ shows-none s.extremes in
      λ j. record {
        counts = c j;
        extremes = s.extremes;
        threshold = s.threshold;
        min = pick (e j) (N.value (start N).min) N.none;
        max = pick (e j) (N.value (start N).max) N.none;
        sum = fresh-sum s.sums j;
      }

  module _ (size low : ℕ) (s : Settings) (p : Handed N) (o : Known s p) (a : Agreeing size low s.kind p.counts) where
    fresh-counts : merge_counts size (empty s) p.counts ≡ p.counts
    fresh-counts = counts-fresh size low s.kind s.threshold p.counts o.shape a

    -- before it, and after it
    pub fresh-first : merge_handed N size (handed N s []) p ≡ with_sum N (N.add N.zero p.sum) p
    fresh-first =
        ap (λ f. merge_handed N size f p) (fresh-is s)
        ∙ (λ j. record {
          counts = fresh-counts j;
          extremes = sym o.extremes j;
          threshold = sym o.threshold j;
          min = (O.nearer-none true p.min).0 j;
          max = (O.nearer-none false p.max).0 j;
          sum = N.add N.zero p.sum;
        })

    pub fresh-second : merge_handed N size p (handed N s []) ≡ with_sum N (N.add p.sum N.zero) p
    fresh-second =
        ap (merge_handed N size p) (fresh-is s)
        ∙ (λ j. record {
          counts = (counts-comm size s.kind p.counts (empty s) o.shape (shape_of s.kind s.threshold []) ∙ fresh-counts) j;
          extremes = p.extremes;
          threshold = p.threshold;
          min = (O.nearer-none true p.min).1 j;
          max = (O.nearer-none false p.max).1 j;
          sum = N.add p.sum N.zero;
        })
