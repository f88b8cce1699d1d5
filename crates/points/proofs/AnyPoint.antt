-- Points of any number: recorded one by one they are those of the list; a point handed out stands for its values in any order, and merged
-- points for the lists joined. Assumes nothing.
use Prim.Native.Nat.{ℕ, suc}
use mathlib.Core.Path.{◌≡◌, refl, ap, sym, subst, ◌∙◌}
use mathlib.Core.Bool.{Bool, true, false, beq}
use mathlib.Core.List.{List, [], ◌∷◌, ◌++◌, foldl, foldl-append, append-nil, append_assoc, Permᴰ}
use lib.ListN.{length}
use Rattle.laws.specs.Pick.{pick}
use Rattle.laws.specs.Lists.{All}
use Rattle.laws.proofs.Bools.{and_intro, beq_intro}
use Rattle.laws.proofs.Lists.{all_append, all-perm}
use Rattle.index.specs.Bins.{finest, lowest_bin}
use Rattle.floats.specs.Answers.{shows}
use Rattle.points.specs.Counts.{Settings, kind_counts, count_of, same_kind, merge_counts, counts_agree, resized}
use Rattle.points.specs.Number.{Number}
use Rattle.points.specs.Any.{start, noted, summary_of, figures_of, record_figures, Handed, shown_if, handed, mergeable, merge_handed, extremes_agree, shown_agrees, handed_agrees, Stands}
use Rattle.points.proofs.Counts.{counts_append, count-is, counts-perm, Allows, counts-parts, under, size_of, own-size, allows-own, Sound, counts-agree, kind-same}
use Rattle.points.proofs.Numbers.{shows-some}
use Rattle.points.proofs.Owed.{chosen, nearer, extreme, Owed}

module _ (N : Number) (O : Owed N) where
  abbrev Val : Type 0
  Val = N.Value

  -- ---- ONE VALUE MORE, AND ONE BY ONE
  pub summary_append : (sums : Bool) (vs : List Val) (v : Val) → summary_of N sums (vs ++ v ∷ []) ≡ noted N sums (summary_of N sums vs) v
  summary_append sums vs v = foldl-append (noted N sums) (start N) vs (v ∷ [])

  nears-more : (vs : List Val) (v : Val) → N.nears (vs ++ v ∷ []) ≡ N.nears vs ++ N.near v ∷ []
  nears-more vs v = O.nears_append vs (v ∷ []) ∙ ap (λ l. N.nears vs ++ l) (O.nears-one v)

  pub figures_append : (s : Settings) (vs : List Val) (v : Val) → record_figures N s (figures_of N s vs) v ≡ figures_of N s (vs ++ v ∷ [])
  figures_append s vs v =
      λ i. record {
        counts = (counts_append s.kind s.threshold (N.nears vs) (N.near v) ∙ ap (kind_counts s.kind s.threshold) (sym (nears-more vs v))) i;
        summary = sym (summary_append s.sums vs v) i;
      }

  pub figures-all : (s : Settings) (us vs : List Val) → foldl (record_figures N s) (figures_of N s us) vs ≡ figures_of N s (us ++ vs)
  figures-all s us [] = ap (figures_of N s) (sym (append-nil us))
  figures-all s us (v ∷ vs) =
      ap (λ f. foldl (record_figures N s) f vs) (figures_append s us v) ∙ figures-all s (us ++ v ∷ []) vs ∙ ap (figures_of N s) (append_assoc us (v ∷ []) vs)

  -- THE COUNT IS HOW MANY VALUES THERE ARE
  pub counted : (s : Settings) (vs : List Val) → count_of (kind_counts s.kind s.threshold (N.nears vs)) ≡ length vs
  counted s vs = count-is s.kind s.threshold (N.nears vs) ∙ O.nears-length vs

  -- ---- A POINT HANDED OUT STANDS FOR ITS VALUES
  -- an extreme of the values, that the switch and a count have
  abbrev Extremal : Bool → Bool → Bool → ℕ → N.Extreme → List Val → Type 0
  Extremal up sums on n e vs = N.SameExtreme e (shown_if N (shows on n) (extreme N up (summary_of N sums vs)))

  pub handed-stands : (s : Settings) (vs : List Val) → All N.Known vs → Stands N s (handed N s vs) vs
  handed-stands s vs h =
      record {
        values = h;
        same = record { counts = refl; extremes = refl; threshold = refl; min = shown true; max = shown false };
        sum = O.sum-handed s.sums vs;
      }
    where
      shown : (up : Bool)
          → (let e = shown_if N (shows s.extremes (count_of (kind_counts s.kind s.threshold (N.nears vs)))) (extreme N up (summary_of N s.sums vs)) in N.SameExtreme e e)
      shown up =
          let x = extreme N up (summary_of N s.sums vs) in
          O.same-shown (shows s.extremes (count_of (kind_counts s.kind s.threshold (N.nears vs)))) x x (O.number-refl x (O.extreme-known up s.sums vs h))

  -- ---- IN ANY ORDER
  counts-moved : (s : Settings) {vs ws : List Val} → Permᴰ vs ws → kind_counts s.kind s.threshold (N.nears vs) ≡ kind_counts s.kind s.threshold (N.nears ws)
  counts-moved s h = counts-perm s.kind s.threshold (O.nears-perm h)

  pub stands-order : (s : Settings) (p : Handed N) {vs ws : List Val} → Permᴰ vs ws → Stands N s p vs → Stands N s p ws
  stands-order s p {vs} {ws} h k =
      record {
        values = all-perm N.Known h k.values;
        same = record {
          counts = k.same.counts ∙ counts-moved s h;
          extremes = k.same.extremes;
          threshold = k.same.threshold;
          min = moved true p.min k.same.min;
          max = moved false p.max k.same.max;
        };
        sum = O.sum-order s.sums p.sum h k.sum;
      }
    where
      moved : (up : Bool) (e : N.Extreme)
          → Extremal up s.sums s.extremes (count_of (kind_counts s.kind s.threshold (N.nears vs))) e vs
          → Extremal up s.sums s.extremes (count_of (kind_counts s.kind s.threshold (N.nears ws))) e ws
      moved up e j =
          let due = shows s.extremes (count_of (kind_counts s.kind s.threshold (N.nears vs))) in
          let x = extreme N up (summary_of N s.sums vs) in
          let y = extreme N up (summary_of N s.sums ws) in
          subst (λ n. Extremal up s.sums s.extremes n e ws) (ap count_of (counts-moved s h))
          (O.extreme-trans e (shown_if N due x) (shown_if N due y) j (O.same-shown due x y (O.extreme-perm up s.sums h k.values)))

  -- ---- MERGED POINTS STAND FOR THE LISTS JOINED, under the size of the merge
  -- the extremes of parts: those of a part without values are not shown, and the other's stay
  none-shown : (on : Bool) (e : N.Extreme) (x : Val) → N.SameExtreme e (shown_if N (shows on 0) x) → e ≡ N.none
  unfolding pick
  none-shown true e x h = O.not-shown e h
  none-shown false e x h = O.not-shown e h

  shown-merged : (up due : Bool) (a b : N.Extreme) (x y : Val) → N.SameExtreme a (shown_if N due x) → N.SameExtreme b (shown_if N due y)
      → N.SameExtreme (nearer N up a b) (shown_if N due (chosen N up x y))
  shown-merged up due a b x y h k =
      subst (N.SameExtreme (nearer N up a b)) (O.nearer-shown up due x y) (O.nearer-cong up a b (shown_if N due x) (shown_if N due y) h k)

  module _ (up sums on : Bool) where
    abbrev Extremes : N.Extreme → List Val → Type 0
    Extremes e vs = Extremal up sums on (length vs) e vs

    abbrev Counted : N.Extreme → ℕ → Val → Type 0
    Counted e n x = N.SameExtreme e (shown_if N (shows on (suc n)) x)

    -- where there is a value the switch decides
    some : (e : N.Extreme) (n : ℕ) (x : Val) → (Counted e n x → N.SameExtreme e (shown_if N on x)) × (N.SameExtreme e (shown_if N on x) → Counted e n x)
    some e n x = (subst (λ d. N.SameExtreme e (shown_if N d x)) (shows-some on n), subst (λ d. N.SameExtreme e (shown_if N d x)) (sym (shows-some on n)))

    extreme-join : (a b : N.Extreme) (vs ws : List Val) → All N.Known vs → All N.Known ws → Extremes a vs → Extremes b ws → Extremes (nearer N up a b) (vs ++ ws)
    extreme-join a b [] ws p q h k =
        subst (λ e. Extremes e ws) (sym (ap (λ x. nearer N up x b) (none-shown on a (extreme N up (summary_of N sums [])) h) ∙ (O.nearer-none up b).0)) k
    extreme-join a b (v ∷ vs) [] p q h k =
        subst (Extremes (nearer N up a b)) (sym (append-nil (v ∷ vs)))
        (subst (λ e. Extremes e (v ∷ vs)) (sym (ap (nearer N up a) (none-shown on b (extreme N up (summary_of N sums [])) k) ∙ (O.nearer-none up a).1)) h)
    extreme-join a b (v ∷ vs) (w ∷ ws) p q h k =
        let x = extreme N up (summary_of N sums (v ∷ vs)) in
        let y = extreme N up (summary_of N sums (w ∷ ws)) in
        subst (Counted (nearer N up a b) (length (vs ++ w ∷ ws))) (O.extreme-parts up sums (v ∷ vs) (w ∷ ws) p q)
        ((some (nearer N up a b) (length (vs ++ w ∷ ws)) (chosen N up x y)).1 (shown-merged up on a b x y ((some a (length vs) x).0 h) ((some b (length ws) y).0 k)))

  pub stands-join : (size : ℕ) (s : Settings) (p q : Handed N) (vs ws : List Val) → Allows size s.kind
      → Stands N s p vs → Stands N s q ws → Stands N (under size s) (merge_handed N size p q) (vs ++ ws)
  stands-join size s p q vs ws a h k =
      record {
        values = all_append N.Known vs ws h.values k.values;
        same = record {
          counts = rw (h.same.counts, k.same.counts) (counts-joined);
          extremes = h.same.extremes;
          threshold = h.same.threshold;
          min = joined true p.min q.min h.same.min k.same.min;
          max = joined false p.max q.max h.same.max k.same.max;
        };
        sum = O.sum-join s.sums p.sum q.sum vs ws h.sum k.sum;
      }
    where
      counts-joined : merge_counts size (kind_counts s.kind s.threshold (N.nears vs)) (kind_counts s.kind s.threshold (N.nears ws))
          ≡ kind_counts (resized size s.kind) s.threshold (N.nears (vs ++ ws))
      counts-joined =
          counts-parts size s.kind s.threshold (N.nears vs) (N.nears ws) a ∙ ap (kind_counts (resized size s.kind) s.threshold) (sym (O.nears_append vs ws))

      joined : (up : Bool) (a b : N.Extreme)
          → Extremal up s.sums s.extremes (count_of (kind_counts s.kind s.threshold (N.nears vs))) a vs
          → Extremal up s.sums s.extremes (count_of (kind_counts s.kind s.threshold (N.nears ws))) b ws
          → Extremal up s.sums s.extremes (count_of (kind_counts (resized size s.kind) s.threshold (N.nears (vs ++ ws)))) (nearer N up a b) (vs ++ ws)
      joined up a b g j =
          subst (λ n. Extremal up s.sums s.extremes n (nearer N up a b) (vs ++ ws)) (sym (counted (under size s) (vs ++ ws)))
          (extreme-join up s.sums s.extremes a b vs ws h.values k.values
          (subst (λ n. Extremal up s.sums s.extremes n a vs) (counted s vs) g)
          (subst (λ n. Extremal up s.sums s.extremes n b ws) (counted s ws) j))

  pub stands-merge : (s : Settings) (p q : Handed N) (vs ws : List Val) → Stands N s p vs → Stands N s q ws → Stands N s (merge_handed N (size_of s.kind) p q) (vs ++ ws)
  stands-merge s p q vs ws h k =
      subst (λ z. Stands N z (merge_handed N (size_of s.kind) p q) (vs ++ ws))
      (λ i. record { kind = own-size s.kind i; extremes = s.extremes; sums = s.sums; threshold = s.threshold })
      (stands-join (size_of s.kind) s p q vs ws (allows-own s.kind) h k)

  -- ---- A POINT THAT STANDS FOR VALUES AGREES, in a merge (whose greatest level is the finest), where its settings could be configured
  pub stands-agrees : (s : Settings) (p : Handed N) (vs : List Val) → Sound s.kind → Stands N s p vs → handed_agrees N (size_of s.kind) finest (lowest_bin finest) p ≡ true
  stands-agrees s p vs h k =
      let due : shows s.extremes (count_of (kind_counts s.kind s.threshold (N.nears vs))) ≡ shows p.extremes (count_of p.counts) =
      λ j. shows (sym k.same.extremes j) (count_of (sym k.same.counts j)) in
      and_intro (counts_agree (size_of s.kind) finest (lowest_bin finest) p.counts) (shown_agrees N p)
      (rw k.same.counts (counts-agree s.kind s.threshold (N.nears vs) h (O.nears-known vs k.values)))
      (subst (λ d. extremes_agree N d p.min p.max ≡ true) due
      (O.extremes-agree (shows s.extremes (count_of (kind_counts s.kind s.threshold (N.nears vs)))) p.min p.max (summary_of N s.sums vs).min (summary_of N s.sums vs).max
      k.same.min k.same.max))

  -- ---- AND TWO OF THEM MERGE
  pub stands-mergeable : (s : Settings) (p q : Handed N) (vs ws : List Val) → Sound s.kind → Stands N s p vs → Stands N s q ws → mergeable N p q ≡ true
  stands-mergeable s p q vs ws h j k =
      rw (j.same.counts, k.same.counts, j.same.extremes, k.same.extremes)
      (and_intro (same_kind (kind_counts s.kind s.threshold (N.nears vs)) (kind_counts s.kind s.threshold (N.nears ws))) (beq s.extremes s.extremes)
      (kind-same s.kind s.threshold (N.nears vs) (N.nears ws) h) (beq_intro s.extremes s.extremes refl))
