-- A stored point that stands for values shows their scale and offsets. Assumes nothing.
use Prim.Native.Nat.{ℕ, ◌-◌, ◌≤◌}
use mathlib.Core.Path.{◌≡◌, refl, ap, sym, subst, ◌∙◌}
use mathlib.Core.Bool.{true, ◌&&◌}
use mathlib.Core.List.{List}
use native.Mathlib.Omega.{arith}
use borrow.Author.Tests.{leb-true}
use lib.Dec.{leb, eqb}
use lib.ListN.{length}
use lib.Seq.{length-take-le}
use lib.IntN.{pos}
use lib.Ieee.{Float}
use Rattle.laws.specs.Pick.{pick}
use Rattle.laws.proofs.Bools.{and_left, and_right}
use Rattle.index.specs.Bins.{finest, scale_of, index_of}
use Rattle.std.specs.Prelude.{Some}
use Rattle.points.specs.Points as Points
use Rattle.points.specs.Points.{Point}
use Rattle.points.specs.Signed.{offset_in}
use Rattle.points.specs.Values.{counts_of}
use Rattle.points.specs.Figures as F
use Rattle.points.specs.Figures.{Kind, exponential, explicit, exponential_counts, explicit_counts, kind_counts}
use Rattle.rows.specs.declared.Row.{Row}
use Rattle.exponential.specs.Series.{row_in, read}
use Rattle.point.specs.declared.Figures.{Figures}
use Rattle.point.specs.declared.Figures.TheVariants.{Exponential, Explicit}
use Rattle.point.specs.Handing.{Stored, counts_as, counts_in, figures_shaped, in_shape}
use Rattle.point.specs.Inner.{point_agrees}
use Rattle.point.proofs.Shown.{offset_of, scale-there, pos-there, neg-there}
use Rattle.promises.specs.Seen.{Seen, Shows}

-- counts of one kind are not of the other
abbrev point_in : Point → F.Counts → Point
point_in d (exponential_counts p) = p
point_in d (explicit_counts b p) = d

abbrev pub is_exponential : F.Counts → Type 0
is_exponential (exponential_counts p) = Unit {0}
is_exponential (explicit_counts b p) = ⊥

-- the offset of a row as it is stored and as it reads
offset-is : (p : Point) (r : Points.Row) (level : ℕ) (q : Row) (xs : List ℕ) → level ≡ finest - p.d → q.len ≤ length xs → row_in q xs ≡ r → offset_of level q ≡ offset_in p r
offset-is p r level q xs l there e =
    let n : q.len ≡ length r.counts = sym (length-take-le q.len xs there) ∙ ap (λ (s : Points.Row). length s.counts) e in
    λ i. pick (eqb (n i) 0) (pos 0) (index_of (l i) (e i).start)

module _ (size : ℕ) (p : Point) (x : Stored) (a : point_agrees size x ≡ true) where
  seen : (f : Figures) → x.point.figures ≡ f → counts_as f x.bounds x.pos x.neg ≡ exponential_counts p → figures_shaped f x.pos x.neg ≡ true → Seen p x.point.figures
  seen (Explicit n) f e s = absurd (subst is_exponential (sym e) tt)
  seen (Exponential c) f e s =
      let t₁ = leb c.level finest in
      let t₂ = leb c.pos.len (length x.pos) in
      let t₃ = leb c.neg.len (length x.neg) in
      let q : read c x.pos x.neg ≡ p = ap (point_in p) e in
      let fine : c.level ≤ finest = leb-true c.level finest (and_left t₁ (t₂ && t₃) s) in
      let i = leb-true c.pos.len (length x.pos) (and_left t₂ t₃ (and_right t₁ (t₂ && t₃) s)) in
      let j = leb-true c.neg.len (length x.neg) (and_right t₂ t₃ (and_right t₁ (t₂ && t₃) s)) in
      let d : finest - c.level ≡ p.d = ap (λ (y : Point). y.d) q in
      let l : c.level ≡ finest - p.d = omega (arith, fine, d) in
      record {
        scale = scale-there size x c f a ∙ ap (λ n. Some (scale_of n)) l;
        pos = pos-there size x c f a ∙ ap Some (offset-is p p.pos c.level c.pos x.pos l i (ap (λ (y : Point). y.pos) q));
        neg = neg-there size x c f a ∙ ap Some (offset-is p p.neg c.level c.neg x.neg l j (ap (λ (y : Point). y.neg) q));
      }

no-scale : (f : Figures) (bs : List Float) (xs ys : List ℕ) (b : List Float) (t : Float) (v : List Float)
    → counts_as f bs xs ys ≡ kind_counts (explicit b) t v → Shows (explicit b) t v f
no-scale (Explicit n) bs xs ys b t v e = refl
no-scale (Exponential c) bs xs ys b t v e = absurd (subst is_exponential e tt)

-- THE LAW, of either kind
pub shows : (k : Kind) (t : Float) (v : List Float) (size : ℕ) (x : Stored) → point_agrees size x ≡ true → in_shape x ≡ true → counts_in x ≡ kind_counts k t v → Shows k t v x.point.figures
shows (exponential m top) t v size x a s e = seen size (counts_of m (finest - top) t v) x a x.point.figures refl e s
shows (explicit b) t v size x a s e = no-scale x.point.figures x.bounds x.pos x.neg b t v e
