-- Points of the histogram kinds over any number merge, wherever there is room, to the point of the lists joined. Assumes nothing.
use Prim.Native.Nat.{ℕ, ◌+◌, ◌^◌, ◌<◌}
use mathlib.Core.Path.{◌≡◌, refl, sym, ap, subst, ◌∙◌}
use mathlib.Core.Bool.{Bool, true, ◌&&◌}
use mathlib.Core.List.{List, ◌++◌}
use mathlib.Core.Logic.{◌⊎◌, inl}
use native.Mathlib.Omega.{arith}
use lib.Dec.{leb, eqb}
use lib.ListN.{length, length-append}
use lib.Ieee.{Float}
use borrow.Author.Tests.{le-leb}
use Rattle.laws.specs.Pick.{pick}
use Rattle.laws.specs.Counting.{most_count}
use Rattle.laws.proofs.Bools.{and_intro}
use Rattle.laws.proofs.Cases.{and-true}
use Rattle.index.specs.Bins.{finest, lowest_bin}
use Rattle.points.specs.Counts.{Kind, exponential, explicit, size_passes, Settings, kind_counts, count_of, size_asked, merge_number}
use Rattle.points.specs.Number.{Number}
use Rattle.points.specs.Any.{Handed, handed, handed_agrees, mergeable, merge_handed, unmergeable, Stands}
use Rattle.points.proofs.Counts.{size_of}
use Rattle.points.proofs.Owed.{Owed}
use Rattle.points.proofs.AnyPoint as P
use Rattle.tally.specs.Kind.{Room}
use Rattle.tally.proofs.Faithful.{Merging, fitting}
use Rattle.tally.proofs.Lawful.{Mergeable}
use Rattle.kinds.specs.Any.{passes, histograms_of}
use Rattle.kinds.proofs.AnyRecorded.{all_known, sound-kind}

sized : (k : Kind) (t : Float) (vs ws : List Float) → passes k ≡ true → size_asked (size_of k) (kind_counts k t vs) (kind_counts k t ws) ≡ true
sized (exponential size top) t vs ws e = (and-true (size_passes size) (leb top finest) e).0
sized (explicit bounds) t vs ws e = refl

none_of : (a b c d : Bool) (n : ℕ) → a ≡ true → b ≡ true → c ≡ true → d ≡ true → n ≡ 0 → merge_number a b c d n ≡ 0
unfolding pick
none_of a b c d n e f g h k = rw (e, f, g, h) k

-- `handed`, `merge_handed` and `unmergeable` of the number, shut or not
pub record Forms (N : Number) : Type 0 where
  pub point_of : Settings → List N.Value → Handed N
  pub point-is : (z : Settings) (vs : List N.Value) → point_of z vs ≡ handed N z vs
  pub merge : ℕ → Handed N → Handed N → Handed N
  pub merge-is : (size : ℕ) (p q : Handed N) → merge size p q ≡ merge_handed N size p q
  pub number : ℕ → Bool → Handed N → Handed N → ℕ
  pub number_is : (size : ℕ) (there : Bool) (p q : Handed N) → number size there p q ≡ unmergeable N size there p q

module _ (N : Number) (O : Owed N) (F : Forms N) where
  -- two points merged under a max_size into lent output: a refusal's number, or the merged point
  abbrev pub merged : ℕ → Handed N → Handed N → Room → ℕ ⊎ Handed N
  merged size p q room =
      pick (eqb (F.number size true p q) 0) (fitting (histograms_of N F.point_of) (F.merge size p q) room) (inl (F.number size true p q))

  abbrev pub merging : Merging (histograms_of N F.point_of)
  merging =
      record {
        Within = N.Within;
        Stands = λ z p vs. (passes z.kind ≡ true) × Stands N z p vs;
        merge = λ z. merged (size_of z.kind);
      }

  -- ---- no refusal but 10
  unrefused : (z : Settings) (p q : Handed N) (vs ws : List N.Value) → passes z.kind ≡ true → length (vs ++ ws) < 2 ^ 64 → N.Within (vs ++ ws)
      → Stands N z p vs → Stands N z q ws → unmergeable N (size_of z.kind) true p q ≡ 0
  unrefused z p q vs ws e l w h k =
      let s = sound-kind z.kind e in
      let size = size_of z.kind in
      let n : leb (length vs + length ws) most_count ≡ true = le-leb (length vs + length ws) most_count (omega (arith, l, length-append vs ws)) in
      let counts : leb (count_of p.counts + count_of q.counts) most_count ≡ leb (length vs + length ws) most_count =
      λ i. leb ((ap count_of h.same.counts ∙ P.counted N O z vs) i + (ap count_of k.same.counts ∙ P.counted N O z ws) i) most_count in
      none_of (size_asked size p.counts q.counts) (true && (handed_agrees N size finest (lowest_bin finest) p && handed_agrees N size finest (lowest_bin finest) q)) (mergeable N p q)
      (leb (count_of p.counts + count_of q.counts) most_count) (N.beyond p.sum q.sum)
      ((λ i. size_asked size (h.same.counts i) (k.same.counts i)) ∙ sized z.kind z.threshold (N.nears vs) (N.nears ws) e)
      (and_intro (handed_agrees N size finest (lowest_bin finest) p) (handed_agrees N size finest (lowest_bin finest) q) (P.stands-agrees N O z p vs s h) (P.stands-agrees N O z q ws s k))
      (P.stands-mergeable N O z p q vs ws s h k)
      (counts ∙ n)
      (O.sum-within z.sums p.sum q.sum vs ws h.sum k.sum w)

  accepted : (size : ℕ) (p q : Handed N) (room : Room) → F.number size true p q ≡ 0 → merged size p q room ≡ fitting (histograms_of N F.point_of) (F.merge size p q) room
  unfolding pick
  accepted size p q room e = rw e

  pub mergeable-is : Mergeable (histograms_of N F.point_of) merging
  mergeable-is =
      record {
        parts = O.within-parts;
        shuffled = O.within-perm;
        handed = λ z vs ok f l w. (ok, subst (λ p. Stands N z p vs) (sym (F.point-is z vs)) (P.handed-stands N O z vs (all_known N O F.point_of F.point-is vs f)));
        order = λ z p vs ws h s. (s.0, P.stands-order N O z p h s.1);
        join = λ z p q vs ws f l w s r. (
          F.merge (size_of z.kind) p q,
          (s.0, subst (λ x. Stands N z x (vs ++ ws)) (sym (F.merge-is (size_of z.kind) p q)) (P.stands-merge N O z p q vs ws s.1 r.1)),
          λ room. accepted (size_of z.kind) p q room (F.number_is (size_of z.kind) true p q ∙ unrefused z p q vs ws s.0 l w s.1 r.1),
        );
      }
