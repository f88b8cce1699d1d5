-- Points merged by code, by any grouping and order: the same scale, rows, counts and extremes, a zero's sign aside; the sums add up. Assumes nothing.
use Prim.Native.Nat.{ℕ}
use mathlib.Core.Path.{◌≡◌, refl, ap, sym, subst, ◌∙◌}
use mathlib.Core.List.{List, [], ◌∷◌, ◌++◌, map, map-append, Permᴰ}
use Rattle.laws.specs.Lists.{All}
use Rattle.laws.specs.Trees.{Tree, leaf, node, leaves}
use Rattle.laws.proofs.Trees.{folded}
use Rattle.laws.proofs.Lists.{all_map, map-perm}
use Rattle.points.specs.Counts.{Settings}
use Rattle.points.specs.Number.{Number}
use Rattle.points.specs.Any.{Handed, merge_handed, Of, Same}
use Rattle.points.specs.Coded.{Coded}
use Rattle.points.proofs.Owed.{Owed}
use Rattle.points.proofs.AnyGrouping.{Known, known, merge-any}
use Rattle.merging.specs.Merged.{Groups}
use Rattle.merging.proofs.Owed.{Merges, merged-reads}

all_read : {A B : Type 0} (f : A → B) (P : B → Type 0) (xs : List A) → All (λ x. P (f x)) xs → All P (map f xs)
unfolding All
all_read f P [] a = tt
all_read f P (x ∷ xs) a = (a.0, all_read f P xs a.1)

module _ {N : Number} (O : Owed N) (C : Coded N) (M : Merges C) where
  -- ---- a tree of merges reads as the tree of the points read
  abbrev read_tree : Tree C.Stored → Tree (Handed N)
  read_tree (leaf x) = leaf (C.handed_in x)
  read_tree (node s t) = node (read_tree s) (read_tree t)

  leaves-read : (t : Tree C.Stored) → leaves (read_tree t) ≡ map C.handed_in (leaves t)
  leaves-read (leaf x) = refl
  leaves-read (node s t) = (λ j. leaves-read s j ++ leaves-read t j) ∙ sym (map-append C.handed_in (leaves s) (leaves t))

  groups-read : (size : ℕ) (t : Tree C.Stored) (z : C.Stored) → Groups C size t z → C.handed_in z ≡ folded (merge_handed N size) (read_tree t)
  groups-read size (leaf a) z g = ap C.handed_in (sym g)
  groups-read size (node s t) z (x, y, us, vs, g, h, e) =
      (merged-reads C M size x y z us vs e).0 ∙ (λ j. merge_handed N size (groups-read size s x g j) (groups-read size t y h j))

  -- THE LAW. Of points of one kind, with its bounds, one switch and threshold, and extremes as the switch has them
  pub any_grouping : (size : ℕ) (s : Settings) (t u : Tree C.Stored) (x y : C.Stored) → Permᴰ (leaves t) (leaves u) → All (λ l. Of N s (C.handed_in l)) (leaves t)
      → Groups C size t x → Groups C size u y → Same N (C.handed_in x) (C.handed_in y)
  any_grouping size s t u x y h a g k =
      rw (groups-read size t x g, groups-read size u y k)
      (merge-any N O size s (read_tree t) (read_tree u)
      (rw (leaves-read t, leaves-read u) (map-perm C.handed_in h))
      (rw (leaves-read t)
      (all_read C.handed_in (Known N O s) (leaves t)
      (all_map (λ l. Of N s (C.handed_in l)) (λ l. Known N O s (C.handed_in l)) (λ l. known N O s (C.handed_in l)) (leaves t) a))))

  -- THE SUMS, added up two by two: what holds of one sum, and of two added, holds of what is left
  module _ (Adds : N.Value → List N.Value → Type 0) (one : (x : N.Value) → Adds x (x ∷ []))
      (join : (x y : N.Value) (vs ws : List N.Value) → Adds x vs → Adds y ws → Adds (N.add x y) (vs ++ ws)) where
    pub sums-add : (size : ℕ) (t : Tree C.Stored) (z : C.Stored) → Groups C size t z → Adds (C.handed_in z).sum (map (λ x. (C.handed_in x).sum) (leaves t))
    sums-add size (leaf a) z g = subst (λ x. Adds (C.handed_in x).sum ((C.handed_in a).sum ∷ [])) g (one (C.handed_in a).sum)
    sums-add size (node s t) z (x, y, us, vs, g, h, e) =
        let f : C.Stored → N.Value = λ l. (C.handed_in l).sum in
        subst (λ l. Adds (f z) l) (sym (map-append f (leaves s) (leaves t)))
        (subst (λ r. Adds r.sum (map f (leaves s) ++ map f (leaves t))) (sym (merged-reads C M size x y z us vs e).0)
        (join (f x) (f y) (map f (leaves s)) (map f (leaves t)) (sums-add size s x g) (sums-add size t y h)))
