-- Every entry of the table of worked examples holds, by one test that antt computes. Assumes nothing.
use mathlib.Core.Path.{◌≡◌, refl, ap, sym, subst, ◌∙◌}
use mathlib.Core.Bool.{Bool, true, false, not, ◌&&◌, ◌||◌}
use mathlib.Core.List.{List, [], ◌∷◌, map}
use Prim.Native.Nat.{ℕ, ◌+◌, ◌-◌, ◌*◌, ◌/◌, ◌^◌, ◌≤◌, ◌<◌}
use native.Mathlib.Nat.{zero-add}
use native.Mathlib.Omega.{arith}
use lib.Dec.{T, leb, ltb, eqb, leb→le, ltb→lt, eqb→eq}
use lib.IntN.{ℤ, pos, nat_abs, ◌+ℤ◌}
use lib.Ieee.{binary64, of_bits, of_fields, to_bits, is_nan, fits, lt, add, round}
use lib.Ieee.Scale.{finite}
use lib.ListN.{length, get_or}
use Rattle.laws.specs.Pick.{pick}
use Rattle.laws.proofs.Every.{every, at, both_left, both_right}
use Rattle.index.specs.Magnitude.{magnitude, is_negative}
use Rattle.index.specs.DataModel.{IsIndex}
use Rattle.index.specs.Bins.{finest, finest_bin, bin_at, index_of}
use Rattle.index.specs.Signed.{level_answer, value_index}
use Rattle.std.specs.Prelude.{Option, Some, None}
use Rattle.index.specs.declared.signed.Index.TheVariants.{At}
use Rattle.index.proofs.Buckets.{Between}
use Rattle.index.proofs.Finest.{Held}
use Rattle.index.proofs.Indices.{bin-from}
use Rattle.index.proofs.Values.{value-is}
use Rattle.floats.specs.Answers.{shows}
use Rattle.floats.specs.Starts.{zero_float}
use Rattle.points.specs.Points as P
use Rattle.points.specs.Points.{naught, plus, minus, build, scale, fits_both, row, row_of}
use Rattle.points.specs.Values.{class_of, summary_of}
use Rattle.points.specs.Explicit.{bucket_of}
use Rattle.points.specs.Figures.{exponential, exponential_counts}
use Rattle.points.specs.Handed.{handed}
use Rattle.points.proofs.Figures.{count-is}
use Rattle.points.proofs.Numbers.{shows-some}
use Rattle.marks.specs.Marks.{f64, Line, line_of, Mark, index, bucket, point, Holds, marks}
use Rattle.marks.proofs.Equal.{same, same-is, same_list, same_row, same_line, line-is}

-- the magnitude w lies in the bin b at the level, a level and a bin that there are
in_bin : ℕ → ℕ → ℕ → Bool
in_bin level w b =
    leb level finest && (ltb 1 w && (leb w (2 ^ 3072)
    && (ltb (2 ^ (b * 2 ^ (10 - level))) (w ^ (2 ^ (level - 10))) && leb (w ^ (2 ^ (level - 10))) (2 ^ ((b + 1) * 2 ^ (10 - level))))))

-- what the test says
record Known (level w b : ℕ) : Type 0 where
  there : level ≤ finest
  held : Held w
  bin : bin_at level w ≡ b

in-bin : (level w b : ℕ) → T (in_bin level w b) → Known level w b
unfolding in_bin
in-bin level w b t =
    let p1 = leb level finest in
    let p2 = ltb 1 w in
    let p3 = leb w (2 ^ 3072) in
    let p4 = ltb (2 ^ (b * 2 ^ (10 - level))) (w ^ (2 ^ (level - 10))) in
    let p5 = leb (w ^ (2 ^ (level - 10))) (2 ^ ((b + 1) * 2 ^ (10 - level))) in
    let t2 = both_right p1 (p2 && (p3 && (p4 && p5))) t in
    let t3 = both_right p2 (p3 && (p4 && p5)) t2 in
    let t4 = both_right p3 (p4 && p5) t3 in
    let h = leb→le level finest (both_left p1 (p2 && (p3 && (p4 && p5))) t) in
    let held : Held w = record { least = ltb→lt 1 w (both_left p2 (p3 && (p4 && p5)) t2); most = leb→le w (2 ^ 3072) (both_left p3 (p4 && p5) t3) } in
    let i : Between (level - 10) (10 - level) w b =
    record {
      above = ltb→lt (2 ^ (b * 2 ^ (10 - level))) (w ^ (2 ^ (level - 10))) (both_left p4 p5 t4);
      within = leb→le (w ^ (2 ^ (level - 10))) (2 ^ ((b + 1) * 2 ^ (10 - level))) (both_right p4 p5 t4);
    } in
    record { there = h; held = held; bin = bin-from level w b h held i }

-- ---- the values of a point: each is a zero, or lies in the finest bin that is guessed
guess : ℕ → ℕ
guess bits = pick (eqb bits 0x4000_0000_0000_0000) 2098175 (pick (eqb bits 0x4008_0000_0000_0000) 2098775 2097151)

classed : ℕ → ℕ → P.Value
classed bits b = pick (leb (magnitude (f64 bits)) (magnitude zero_float)) naught (pick (is_negative (f64 bits)) (minus b) (plus b))

known : ℕ → Bool
known bits = leb (magnitude (f64 bits)) (magnitude zero_float) || in_bin finest (magnitude (f64 bits)) (guess bits)

guess-is : (bits : ℕ) → T (known bits) → class_of zero_float (f64 bits) ≡ classed bits (guess bits)
unfolding known classed class_of pick
guess-is bits t = go (leb (magnitude (f64 bits)) (magnitude zero_float)) t
  where
    w : ℕ
    w = magnitude (f64 bits)

    one : (x : ℕ) → x / 1 ≡ x
    one x = omega arith

    go : (z : Bool) → T (z || in_bin finest w (guess bits))
        → pick z naught (pick (is_negative (f64 bits)) (minus (finest_bin w)) (plus (finest_bin w))) ≡ pick z naught (pick (is_negative (f64 bits)) (minus (guess bits)) (plus (guess bits)))
    go true t = refl
    go false t = ap (λ (b : ℕ). pick (is_negative (f64 bits)) (minus b) (plus b)) (sym (one (finest_bin w)) ∙ (in-bin finest w (guess bits) t).bin)

all_known : List ℕ → Bool
all_known [] = true
all_known (b ∷ bs) = known b && all_known bs

guesses-are : (bs : List ℕ) → T (all_known bs) → map (class_of zero_float) (map f64 bs) ≡ map (λ b. classed b (guess b)) bs
unfolding all_known
guesses-are [] t = refl
guesses-are (b ∷ bs) t = λ j. guess-is b (both_left (known b) (all_known bs) t) j ∷ guesses-are bs (both_right (known b) (all_known bs) t) j

-- ---- the test of an entry: at the level of the scale

-- the bin of an index
bin_of : ℕ → ℤ → ℕ
bin_of level i = nat_abs (i +ℤ pos (2 ^ (level + 1)))

right_index : ℕ → ℤ → Option ℕ → Bool
right_index bits i None = false
right_index bits i (Some level) =
    not (is_negative (f64 bits))
    && (fits binary64 (f64 bits)
    && (finite (f64 bits) && (same (index_of level (bin_of level i)) i && in_bin level (magnitude (f64 bits)) (bin_of level i))))

right_point : ℕ → List ℕ → Line → Option ℕ → Bool
right_point size values line None = false
right_point size [] line (Some top) = false
right_point size (b ∷ bs) line (Some top) =
    let values = b ∷ bs in
    let m = summary_of (map f64 values) in
    all_known values
    && same_line (line_of (P.point_of size (finest - top) (map (λ b. classed b (guess b)) values)) m.min m.max m.sum) line

right : ℕ → Mark → Bool
right k (index bits scale i) = right_index bits i (level_answer scale)
right k (bucket bounds bits n) = eqb (bucket_of (map f64 bounds) (f64 bits)) n
right k (point size scale values line) = right_point size values line (level_answer scale)

is_true : (b : Bool) → T b → b ≡ true
is_true true t = refl
is_true false t = absurd t

is_false : (b : Bool) → T (not b) → b ≡ false
is_false true t = absurd t
is_false false t = refl

held-some : (w : ℕ) → Held w → w ≡ 0 → ⊥
held-some w h e = omega (arith, h.least)

both-index : (bits : ℕ) (scale i : ℤ) (found : Option ℕ) → level_answer scale ≡ found → T (right_index bits i found) → IsIndex scale (magnitude (f64 bits)) i × (value_index (f64 bits) scale ≡ At false i)
unfolding right_index
both-index bits scale i None e t = absurd t
both-index bits scale i (Some level) e t =
    let x = f64 bits in
    let b = bin_of level i in
    let p = not (is_negative x) in
    let q = fits binary64 x in
    let r = finite x in
    let s = same (index_of level b) i in
    let u = in_bin level (magnitude x) b in
    let t2 = both_right p (q && (r && (s && u))) t in
    let t3 = both_right q (r && (s && u)) t2 in
    let t4 = both_right r (s && u) t3 in
    let known = in-bin level (magnitude x) b (both_right s u t4) in
    let at : index_of level (bin_at level (magnitude x)) ≡ i = ap (index_of level) known.bin ∙ same-is (index_of level b) i (both_left s u t4) in
    let v = value-is x scale level (both_left q (r && (s && u)) t2) (is_true r (both_left r (s && u) t3)) (held-some (magnitude x) known.held) e in (
      subst (λ (z : ℤ). IsIndex scale (magnitude x) z) at v.1,
      v.0 ∙ (λ j. At (is_false (is_negative x) (both_left p (q && (r && (s && u))) t) j) (at j)),
    )

point-holds : (size : ℕ) (scale : ℤ) (values : List ℕ) (line : Line) (found : Option ℕ) → level_answer scale ≡ found → T (right_point size values line found) → Holds (point size scale values line)
unfolding right_point handed pick
point-holds size scale values line None e t = absurd t
point-holds size scale [] line (Some top) e t = absurd t
point-holds size scale (b ∷ bs) line (Some top) e t =
    let values = b ∷ bs in
    let m = summary_of (map f64 values) in
    let c = P.point_of size (finest - top) (map (class_of zero_float) (map f64 values)) in
    let due : shows true c.total ≡ true = ap (shows true) (count-is (exponential size top) zero_float (map f64 values)) ∙ shows-some true (length (map f64 bs)) in
    let a = all_known values in
    let o = line_of (P.point_of size (finest - top) (map (λ b. classed b (guess b)) values)) m.min m.max m.sum in (
      top,
      c,
      m.min,
      m.max,
      m.sum,
      e,
      (λ j. record {
        counts = exponential_counts c;
        extremes = true;
        threshold = zero_float;
        min = pick (due j) (Some m.min) None;
        max = pick (due j) (Some m.max) None;
        sum = m.sum;
      }),
      (λ j. line_of (P.point_of size (finest - top) (guesses-are values (both_left a (same_line o line) t) j)) m.min m.max m.sum)
          ∙ line-is o line (both_right a (same_line o line) t),
    )

holds : (k : ℕ) (m : Mark) → T (right k m) → Holds m
unfolding right
holds k (index bits scale i) t = both-index bits scale i (level_answer scale) refl t
holds k (bucket bounds bits n) t = eqb→eq (bucket_of (map f64 bounds) (f64 bits)) n t
holds k (point size scale values line) t = point-holds size scale values line (level_answer scale) refl t

tested : T (every right 0 marks)
unfolding right right_index right_point bin_of same in_bin guess classed known all_known same_line same_row same_list P.point_of build scale fits_both P.fits row row_of pick bucket_of lt add round magnitude of_bits of_fields fits is_nan to_bits level_answer
tested = tt

-- ---- THE MARKS
module _ (k : ℕ) (h : k < length marks) where
  abbrev pub mark : Mark
  mark = get_or marks k (index 0 (pos 0) (pos 0))

  pub marks-hold : Holds mark
  marks-hold = holds k mark (subst (λ (n : ℕ). T (right n mark)) (zero-add k) (at right (index 0 (pos 0) (pos 0)) marks 0 tested k h))
