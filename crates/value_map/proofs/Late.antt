-- THE SETTINGS ASKED LATE. Code may ask a call's other tests first, and whether configuring accepted the settings only where the call has come
-- to a seating: the answers are those of `called`, which asks it with the limit and the filter. Assumes nothing.
use Prim.Native.Nat.{ℕ, ◌≤◌, ◌<◌}
use mathlib.Core.Path.{◌≡◌, refl, ap, sym, subst, ◌∙◌}
use mathlib.Core.Logic.{◌⊎◌, ⊎_elim}
use mathlib.Core.Bool.{Bool, true, false, ◌&&◌}
use mathlib.Core.List.{List}
use native.Mathlib.Omega.{arith}
use lib.Dec.{leb, eqb}
use borrow.Author.Tests.{eq-eqb, ne_eqb, le-leb, lt-leb}
use Rattle.laws.specs.Pick.{pick}
use Rattle.laws.proofs.Bools.{flag, pick_true, pick-false}
use Rattle.refusals.specs.declared.Refusal.{Refusal}
use Rattle.refusals.specs.declared.Refusal.TheVariants as R
use Rattle.refusals.specs.Refusals.{number}
use Rattle.tally.specs.Kind.{Kind}
use Rattle.sets.specs.Sorted.{most_attributes}
use Rattle.directory.specs.Calls.{stores_suffice}
use Rattle.bindings.specs.Calls as Bindings
use Rattle.seats.specs.Seats.{barred_by, unless_barred, Seating}
use Rattle.seats.proofs.Bars.{barred-away, barred-on}
use Rattle.seats.proofs.Seatings.{Late}
use Rattle.value_map.specs.Store.{Store, Recording}
use Rattle.value_map.specs.Calls.{Held, Outcome, refused, beside, passes, lent, entered, called}
use Rattle.value_map.specs.Inner.{finished, taken, turned}
use Rattle.value_map.proofs.Owed.{Owed}
use Rattle.value_map.proofs.Cases.{called-barred, called_on}
use Rattle.value_map.proofs.Ways.{either, take_no, take_on, Way, Seats, ends-no, ends_in, row_as}

-- ---- the number that bars a call, without the settings and with them

unfoldable numbered : Bool → Bool → Bool → Bool → ℕ
numbered a b c d = pick a (pick b (pick c (pick d 0 8) 5) 6) 12

later : (a b c p d : Bool) → numbered a b c (p && d) ≡ pick (eqb (numbered a b c d) 0) (pick p 0 8) (numbered a b c d)
unfolding numbered pick
later false b c p d = refl
later true false c p d = refl
later true true false p d = refl
later true true true false false = refl
later true true true false true = refl
later true true true true false = refl
later true true true true true = refl

stays : (a b c d p : Bool) → turned p (numbered a b c d) ≡ numbered a b c d
unfolding turned numbered pick
stays false b c d p = refl
stays true false c d p = refl
stays true true false d p = refl
stays true true true false false = refl
stays true true true false true = refl
stays true true true true p = refl

module _ (room fin : Bool) (n : ℕ) (ok : Bool) where
  turned-bar : (p : Bool) → turned p (barred_by room fin n ok) ≡ barred_by room fin n ok
  unfolding barred_by numbered
  turned-bar p = stays room fin (leb n most_attributes) ok p

  module _ (p : Bool) where
    bar-late : barred_by room fin n (p && ok) ≡ pick (eqb (barred_by room fin n ok) 0) (pick p 0 8) (barred_by room fin n ok)
    unfolding barred_by numbered
    bar-late = later room fin (leb n most_attributes) p ok

    bar-same : (barred_by room fin n ok ≡ 0 → ⊥) → barred_by room fin n ok ≡ barred_by room fin n (p && ok)
    bar-same d = sym (bar-late ∙ pick-false (eqb (barred_by room fin n ok) 0) _ _ (ne_eqb (barred_by room fin n ok) 0 d))

    bar-by : barred_by room fin n ok ≡ 0 → pick p 0 8 ≡ barred_by room fin n (p && ok)
    bar-by z = sym (bar-late ∙ pick_true (eqb (barred_by room fin n ok) 0) _ _ (eq-eqb (barred_by room fin n ok) 0 z))

-- ---- the number of a seating that is refused

either_way : (t : Bool) (n : ℕ) → pick t n n ≡ n
unfolding pick
either_way true n = refl
either_way false n = refl

module _ (p : Bool) (n : ℕ) where
  pub turned-low : n < 7 → n ≡ turned p n
  unfolding turned pick
  turned-low h = rw (lt-leb 7 n h)

  pub turned-high : 9 < n → n ≡ turned p n
  unfolding turned pick
  turned-high h = rw (le-leb 7 n (omega arith), lt-leb n 9 h)

  pub turned_same : p ≡ true → n ≡ turned p n
  unfolding turned
  turned_same e = sym (ap (λ (k : ℕ). pick (leb 7 n && leb n 9) k n) (pick_true p n 8 e) ∙ either_way (leb 7 n && leb n 9) n)

  pub turned_8 : 7 ≤ n → n ≤ 9 → p ≡ false → 8 ≡ turned p n
  unfolding turned pick
  turned_8 a b e = rw (le-leb 7 n a, le-leb n 9 b, e)

-- by the refusal itself
module _ (p : Bool) where
  pub turned-other : (e : Refusal) → (e ≡ R.NoHandle → ⊥) → (e ≡ R.Disagrees → ⊥) → (e ≡ R.Full → ⊥) → number e ≡ turned p (number e)
  turned-other R.MaxSize a b c = turned-low p 1 (omega arith)
  turned-other R.MaxScale a b c = turned-low p 2 (omega arith)
  turned-other R.Bounds a b c = turned-low p 3 (omega arith)
  turned-other R.Limit a b c = turned-low p 4 (omega arith)
  turned-other R.Attributes a b c = turned-low p 5 (omega arith)
  turned-other R.NotFinite a b c = turned-low p 6 (omega arith)
  turned-other R.NoHandle a b c = absurd (a refl)
  turned-other R.Disagrees a b c = absurd (b refl)
  turned-other R.Full a b c = absurd (c refl)
  turned-other R.NoRoom a b c = turned-high p 10 (omega arith)
  turned-other R.Unlike a b c = turned-high p 11 (omega arith)
  turned-other R.LentShort a b c = turned-high p 12 (omega arith)
  turned-other R.NoValues a b c = turned-high p 13 (omega arith)
  turned-other R.OffGrid a b c = turned-high p 14 (omega arith)
  turned-other R.NotASheet a b c = turned-high p 15 (omega arith)
  turned-other R.SumOutside a b c = turned-high p 16 (omega arith)

  pub turned-late : (e : Refusal) → (e ≡ R.NoHandle) ⊎ ((e ≡ R.Disagrees) ⊎ (e ≡ R.Full)) → p ≡ false → 8 ≡ turned p (number e)
  turned-late e i q =
      ⊎_elim
      (λ (i : e ≡ R.NoHandle). turned_8 p 7 (omega arith) (omega arith) q ∙ ap (λ (e : Refusal). turned p (number e)) (sym i))
      (λ (i : (e ≡ R.Disagrees) ⊎ (e ≡ R.Full)). ⊎_elim
      (λ (i : e ≡ R.Disagrees). turned_8 p 8 (omega arith) (omega arith) q ∙ ap (λ (e : Refusal). turned p (number e)) (sym i))
      (λ (i : e ≡ R.Full). turned_8 p 9 (omega arith) (omega arith) q ∙ ap (λ (e : Refusal). turned p (number e)) (sym i)) i) i

some_number : (n : ℕ) → (n ≡ 0 → ⊥) → (t q : Bool) → pick t (pick q n 8) n ≡ 0 → ⊥
unfolding pick
some_number n d true true e = d e
some_number n d true false e = omega arith
some_number n d false q e = d e

pub turned-some : (p : Bool) (n : ℕ) → (n ≡ 0 → ⊥) → turned p n ≡ 0 → ⊥
unfolding turned
turned-some p n d = some_number n d (leb 7 n && leb n 9) p

-- ---- the code's way: p says whether the settings pass, asked late

module _ {K : Kind} {S : Store K} (W : Owed S) (limit : ℕ) (h : Held S.Cells) (v : K.Value) (y : Way S limit h) (p : Bool) (w : p ≡ passes S)
    (a : Seating) (row : List ℕ) (o : Recording S.Cells) (r : Bindings.Outcome) (g : r ≡ finished o.no h.kept.dir h.kept.stores row a.target)
    (t : o ≡ taken S h.cells v a.no (turned p a.no) a.slot a.updated) where
  abbrev bar : ℕ
  bar = barred_by (lent S limit h) (K.finite v) y.attributes y.accepted

  abbrev all : Outcome S.Cells
  all = called S limit h v y.attributes y.accepted y.row y.seat

  away : (n : ℕ) → (n ≡ 0 → ⊥) → (a.no ≡ 0 → ⊥) → turned p a.no ≡ n → beside r o.cells ≡ refused n h
  away n d k e =
      let q = t ∙ sym (take_no S h.cells v a.no (turned p a.no) a.slot a.updated k) in
      ends-no W limit h v y a row o r g n d (ap (λ (i : Recording S.Cells). i.no) q ∙ e) (ap (λ (i : Recording S.Cells). i.cells) q)

  barred : a ≡ unless_barred bar y.seat → (bar ≡ 0 → ⊥) → beside r o.cells ≡ all
  barred e d =
      let n : a.no ≡ bar = ap (λ (s : Seating). s.no) (e ∙ barred-away bar y.seat d) in
      away bar d (λ z. d (sym n ∙ z)) (ap (turned p) n ∙ turned-bar (lent S limit h) (K.finite v) y.attributes y.accepted p)
      ∙ called-barred S limit h v y.attributes y.accepted y.row y.seat bar (bar-same (lent S limit h) (K.finite v) y.attributes y.accepted (passes S) d) d

  module _ (s : a ≡ y.seat) (z : bar ≡ 0) where
    by : pick p 0 8 ≡ barred_by (lent S limit h) (K.finite v) y.attributes (passes S && y.accepted)
    by = ap (λ (q : Bool). pick q 0 8) w ∙ bar-by (lent S limit h) (K.finite v) y.attributes y.accepted (passes S) z

    good : p ≡ true → (a.no ≡ 0 → row ≡ y.row) → beside r o.cells ≡ all
    good i k =
        ends_in W limit h v y a row o r g (t ∙ ap (λ (n : ℕ). taken S h.cells v a.no n a.slot a.updated) (sym (turned_same p a.no i)))
        ∙ row_as W limit h v y a row o r g k ∙ ap (entered S h v y.row) s
        ∙ called_on S limit h v y.attributes y.accepted y.row y.seat 0 (sym (pick_true p 0 8 i) ∙ by) refl

    -- the slots say 8 themselves under settings that do not pass
    eight : p ≡ false → (a.no ≡ 0 → (S.recorded a.slot a.updated h.cells v).no ≡ 8) → beside r o.cells ≡ all
    eight i bad =
        either a.no
        (λ n. let q = t ∙ sym (take_on S h.cells v a.no (turned p a.no) a.slot a.updated n) in
        ends-no W limit h v y a row o r g 8 (λ x. omega (arith, x)) (ap (λ (i : Recording S.Cells). i.no) q ∙ bad n)
        (ap (λ (i : Recording S.Cells). i.cells) q ∙ W.unchanged h.cells a.slot a.updated v (λ x. omega (arith, x, bad n))))
        (λ d. let m = subst Late (sym s) y.late d in away 8 (λ x. omega (arith, x)) d (sym (turned_8 p a.no m.0 m.1 i)))
        ∙ called-barred S limit h v y.attributes y.accepted y.row y.seat 8 (sym (pick-false p 0 8 i) ∙ by) (λ x. omega (arith, x))

  pub late-ends : {c f : Bool} → c ≡ S.suffices limit h.cells → f ≡ K.finite v → Seats W limit h v y c f 0 a → (a.no ≡ 0 → row ≡ y.row)
      → (p ≡ false → a.no ≡ 0 → (S.recorded a.slot a.updated h.cells v).no ≡ 8) → beside r o.cells ≡ all
  late-ends c f e k bad =
      let e₁ : a ≡ unless_barred bar y.seat =
      e ∙ (λ j. unless_barred (barred_by (stores_suffice limit h.kept.stores && c j) (f j) y.attributes y.accepted) y.seat) in
      either bar
      (λ z. let s = e₁ ∙ barred-on bar y.seat z in ⊎_elim (λ (i : p ≡ true). good s z i k) (λ (i : p ≡ false). eight s z i (bad i)) (flag p))
      (barred e₁)
