-- Counts of either kind, whatever the numbers are besides their f64: of a list, one value more, in another order, merged; agreement. Assumes nothing.
use Prim.Native.Nat.{ℕ, suc, ◌+◌, ◌-◌, ◌≤◌, max}
use mathlib.Core.Path.{◌≡◌, refl, ap, sym, ◌∙◌}
use mathlib.Core.Bool.{true, false}
use mathlib.Core.List.{List, [], ◌∷◌, ◌++◌, map, map-append, Permᴰ}
use native.Mathlib.Omega.{arith}
use lib.ListN.{length}
use lib.Ieee.{Float}
use Rattle.laws.specs.Lists.{All}
use Rattle.laws.proofs.Bools.{not-both}
use Rattle.laws.proofs.Lists.{map-perm}
use Rattle.index.specs.Bins.{finest, lowest_bin}
use Rattle.floats.specs.Starts.{FiniteF64}
use Rattle.points.specs.Points.{Value, naught, plus, minus, bag_of, bag, build, point_of, merge}
use Rattle.points.specs.Classes.{class_of, counts_of}
use Rattle.points.specs.Explicit.{bounds_pass, buckets_of, merge_buckets}
use Rattle.points.specs.Counts.{Kind, exponential, explicit, Settings, Counts, exponential_counts, explicit_counts, kind_counts, record_counts, count_of, same_kind, merge_counts, counts_agree, resized, Shape}
use Rattle.points.proofs.Agreement.{Agreed, agreed-agrees, fresh, fresh_neutral}
use Rattle.points.proofs.Classes.{counts_of-agrees}
use Rattle.points.proofs.Merge.{merge-points, merge-comm, merge-assoc}
use Rattle.points.proofs.Orders.{record-point_of, point_of-perm}
use Rattle.points.proofs.Explicit.{record-buckets_of, merge-buckets_of, buckets_of-perm, buckets_of-ok, buckets-agree, same-bounds, BucketsOk, buckets-comm, buckets-assoc, fresh-buckets}

pub counts_append : (k : Kind) (t : Float) (vs : List Float) (v : Float) → record_counts k t (kind_counts k t vs) v ≡ kind_counts k t (vs ++ v ∷ [])
counts_append (exponential size top) t vs v =
    ap exponential_counts
    (record-point_of size (finest - top) (map (class_of t) vs) (class_of t v)
    ∙ ap (point_of size (finest - top)) (sym (map-append (class_of t) vs (v ∷ []))))
counts_append (explicit bounds) t vs v = ap (explicit_counts bounds) (record-buckets_of bounds vs v)

-- THE COUNT IS HOW MANY VALUES THERE ARE
bag-total : (cs : List Value) → (bag_of cs).total ≡ length cs
bag-total [] = refl
bag-total (naught ∷ cs) = omega (arith, bag-total cs)
bag-total (plus i ∷ cs) = omega (arith, bag-total cs)
bag-total (minus i ∷ cs) = omega (arith, bag-total cs)

length-map : (f : Float → Value) (vs : List Float) → length (map f vs) ≡ length vs
length-map f [] = refl
length-map f (v ∷ vs) = ap suc (length-map f vs)

pub count-is : (k : Kind) (t : Float) (vs : List Float) → count_of (kind_counts k t vs) ≡ length vs
unfolding point_of build buckets_of
count-is (exponential size top) t vs = bag-total (map (class_of t) vs) ∙ length-map (class_of t) vs
count-is (explicit bounds) t vs = refl

-- AND OF MERGED COUNTS that are of one kind, that of both
abbrev pub OneKind : Counts → Counts → Type 0
OneKind (exponential_counts p) (exponential_counts q) = Unit {0}
OneKind (exponential_counts p) (explicit_counts c q) = ⊥
OneKind (explicit_counts b p) (exponential_counts q) = ⊥
OneKind (explicit_counts b p) (explicit_counts c q) = Unit {0}

pub kind-one : (c d : Counts) → same_kind c d ≡ true → OneKind c d
kind-one (exponential_counts p) (exponential_counts q) e = tt
kind-one (exponential_counts p) (explicit_counts c q) e = absurd (not-both false e refl)
kind-one (explicit_counts b p) (exponential_counts q) e = absurd (not-both false e refl)
kind-one (explicit_counts b p) (explicit_counts c q) e = tt

pub shape_one : (k : Kind) (c d : Counts) → Shape k c → Shape k d → OneKind c d
shape_one (exponential m top) (exponential_counts p) (exponential_counts q) h k = tt
shape_one (exponential m top) (exponential_counts p) (explicit_counts b q) h k = absurd k
shape_one (exponential m top) (explicit_counts b p) d h k = absurd h
shape_one (explicit b) (exponential_counts p) d h k = absurd h
shape_one (explicit b) (explicit_counts c p) (exponential_counts q) h k = absurd k
shape_one (explicit b) (explicit_counts c p) (explicit_counts d q) h k = tt

pub merged-count : (size : ℕ) (c d : Counts) → OneKind c d → count_of (merge_counts size c d) ≡ count_of c + count_of d
unfolding merge build bag merge_buckets
merged-count size (exponential_counts p) (exponential_counts q) e = refl
merged-count size (exponential_counts p) (explicit_counts c q) e = absurd e
merged-count size (explicit_counts b p) (exponential_counts q) e = absurd e
merged-count size (explicit_counts b p) (explicit_counts c q) e = refl

-- ---- the counts of a list, of lists joined, and in another order
pub counts-perm : (k : Kind) (t : Float) {vs ws : List Float} → Permᴰ vs ws → kind_counts k t vs ≡ kind_counts k t ws
counts-perm (exponential size top) t h = ap exponential_counts (point_of-perm size (finest - top) (map-perm (class_of t) h))
counts-perm (explicit bounds) t h = ap (explicit_counts bounds) (buckets_of-perm bounds h)

-- the size that a kind was built under, where it has one, is no smaller
abbrev pub Allows : ℕ → Kind → Type 0
Allows size (exponential m top) = size ≤ m
Allows size (explicit bounds) = Unit {0}

pub counts-parts : (size : ℕ) (k : Kind) (t : Float) (vs ws : List Float) → Allows size k
    → merge_counts size (kind_counts k t vs) (kind_counts k t ws) ≡ kind_counts (resized size k) t (vs ++ ws)
counts-parts size (exponential m top) t vs ws h =
    let d = finest - top in
    let e : max d d ≡ d = omega arith in
    ap exponential_counts
    (merge-points size m m d d (map (class_of t) vs) (map (class_of t) ws) h h
    ∙ ap (λ n. point_of size n (map (class_of t) vs ++ map (class_of t) ws)) e
    ∙ ap (point_of size d) (sym (map-append (class_of t) vs ws)))
counts-parts size (explicit bounds) t vs ws h = ap (explicit_counts bounds) (merge-buckets_of bounds vs ws)

abbrev pub under : ℕ → Settings → Settings
under size s = record { kind = resized size s.kind; extremes = s.extremes; sums = s.sums; threshold = s.threshold }

-- under the size that both were built under; no merge of explicit points asks for one
abbrev pub size_of : Kind → ℕ
size_of (exponential size top) = size
size_of (explicit bounds) = 0

pub own-size : (k : Kind) → resized (size_of k) k ≡ k
own-size (exponential size top) = refl
own-size (explicit bounds) = refl

pub allows-own : (k : Kind) → Allows (size_of k) k
allows-own (exponential size top) = omega arith
allows-own (explicit bounds) = tt

-- ---- the counts of finite values agree, in a merge (whose greatest level is the finest), where the kind could be configured
abbrev pub Sound : Kind → Type 0
Sound (exponential size top) = 3 ≤ size
Sound (explicit bounds) = bounds_pass bounds ≡ true

pub counts-agree : (k : Kind) (t : Float) (vs : List Float) → Sound k → All FiniteF64 vs → counts_agree (size_of k) finest (lowest_bin finest) (kind_counts k t vs) ≡ true
counts-agree (exponential size top) t vs h p =
    let a = counts_of-agrees size top t vs h p in
    agreed-agrees size finest (lowest_bin finest) (counts_of size (finest - top) t vs)
    (record { fine = omega arith; coarse = a.coarse; pos = a.pos; neg = a.neg; adds = a.adds })
counts-agree (explicit bounds) t vs h p = buckets-agree bounds (buckets_of bounds vs) (buckets_of-ok bounds vs h)

pub kind-same : (k : Kind) (t : Float) (vs ws : List Float) → Sound k → same_kind (kind_counts k t vs) (kind_counts k t ws) ≡ true
kind-same (exponential size top) t vs ws h = refl
kind-same (explicit bounds) t vs ws h = same-bounds bounds h

-- ---- merging: commutative, associative, and the fresh point's counts change none
pub shape-kept : (size : ℕ) (k : Kind) (a b : Counts) → Shape k a → Shape k b → Shape k (merge_counts size a b)
shape-kept size (exponential m top) (exponential_counts p) (exponential_counts q) h k = tt
shape-kept size (exponential m top) (exponential_counts p) (explicit_counts b q) h k = absurd k
shape-kept size (exponential m top) (explicit_counts b p) c h k = absurd h
shape-kept size (explicit b) (exponential_counts p) c h k = absurd h
shape-kept size (explicit b) (explicit_counts c p) (exponential_counts q) h k = absurd k
shape-kept size (explicit b) (explicit_counts c p) (explicit_counts d q) h k = h

pub counts-comm : (size : ℕ) (k : Kind) (a b : Counts) → Shape k a → Shape k b → merge_counts size a b ≡ merge_counts size b a
counts-comm size (exponential m top) (exponential_counts p) (exponential_counts q) h k = ap exponential_counts (merge-comm size p q)
counts-comm size (exponential m top) (exponential_counts p) (explicit_counts b q) h k = absurd k
counts-comm size (exponential m top) (explicit_counts b p) c h k = absurd h
counts-comm size (explicit b) (exponential_counts p) c h k = absurd h
counts-comm size (explicit b) (explicit_counts c p) (exponential_counts q) h k = absurd k
counts-comm size (explicit b) (explicit_counts c p) (explicit_counts d q) h k = ap (λ x. explicit_counts x (merge_buckets p q)) (h ∙ sym k) ∙ ap (explicit_counts d) (buckets-comm p q)

pub counts-assoc : (size : ℕ) (k : Kind) (a b c : Counts) → Shape k a → Shape k b → Shape k c → merge_counts size (merge_counts size a b) c ≡ merge_counts size a (merge_counts size b c)
counts-assoc size (exponential m top) (exponential_counts p) (exponential_counts q) (exponential_counts r) h k l = ap exponential_counts (merge-assoc size p q r)
counts-assoc size (exponential m top) (exponential_counts p) (exponential_counts q) (explicit_counts b r) h k l = absurd l
counts-assoc size (exponential m top) (exponential_counts p) (explicit_counts b q) c h k l = absurd k
counts-assoc size (exponential m top) (explicit_counts b p) q c h k l = absurd h
counts-assoc size (explicit b) (exponential_counts p) q c h k l = absurd h
counts-assoc size (explicit b) (explicit_counts d p) (exponential_counts q) c h k l = absurd k
counts-assoc size (explicit b) (explicit_counts d p) (explicit_counts e q) (exponential_counts r) h k l = absurd l
counts-assoc size (explicit b) (explicit_counts d p) (explicit_counts e q) (explicit_counts f r) h k l = ap (explicit_counts d) (buckets-assoc p q r)

abbrev pub Agreeing : ℕ → ℕ → Kind → Counts → Type 0
Agreeing size low (exponential m top) (exponential_counts p) = Agreed size top low p
Agreeing size low (exponential m top) (explicit_counts b p) = ⊥
Agreeing size low (explicit b) (exponential_counts p) = ⊥
Agreeing size low (explicit b) (explicit_counts c p) = BucketsOk b p

pub counts-fresh : (size low : ℕ) (k : Kind) (t : Float) (c : Counts) → Shape k c → Agreeing size low k c → merge_counts size (kind_counts k t []) c ≡ c
counts-fresh size low (exponential m top) t (exponential_counts p) h a =
    ap exponential_counts (ap (λ q. merge size q p) (fresh m (finest - top)) ∙ fresh_neutral size top low (finest - top) p a.fine a)
counts-fresh size low (exponential m top) t (explicit_counts b p) h a = absurd h
counts-fresh size low (explicit b) t (exponential_counts p) h a = absurd h
counts-fresh size low (explicit b) t (explicit_counts c p) h a = ap (explicit_counts b) (fresh-buckets b p a.whole) ∙ ap (λ x. explicit_counts x p) (sym h)

pub shape_of : (k : Kind) (t : Float) (vs : List Float) → Shape k (kind_counts k t vs)
shape_of (exponential m top) t vs = tt
shape_of (explicit bounds) t vs = refl
