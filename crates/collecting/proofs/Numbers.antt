-- The numbers that refuse a collection, case by case, in the order in which code tests. Assumes nothing.
use Prim.Native.Nat.{ℕ, ◌≤◌, ◌<◌, min}
use mathlib.Core.Path.{◌≡◌, refl, sym, ◌∙◌}
use mathlib.Core.Bool.{Bool, true, false, ◌&&◌, and-false}
use borrow.Author.Tests.{eq-eqb, ne_eqb, le-leb, lt-leb}
use lib.Dec.{leb, eqb}
use Rattle.std.specs.Prelude.{◌≢◌, Result, Ok, Err, is_err}
use Rattle.laws.specs.Pick.{pick}
use Rattle.laws.proofs.Cases.{true-not-false}
use Rattle.numbered.specs.Numbered.{code_by}
use Rattle.directory.specs.View.{Stores, agreesb}
use Rattle.directory.specs.Calls.{most_sets, stores_suffice}
use Rattle.directory.specs.declared.Directory.{Directory}
use Rattle.seats.proofs.Least.{both_suffice}
use Rattle.collecting.specs.Slots.{unsurveyed, surveyed_by}
use Rattle.collecting.specs.declared.Survey.{Survey}

-- an answer that refuses has a number
module _ {A E : Type 0} (number_of : E → ℕ) where
  pub refused : ((e : E) → number_of e ≢ 0) → (r : Result A E) → is_err r ≡ true → code_by number_of r ≡ 0 → ⊥
  refused f (Ok a) e = true-not-false (sym e)
  refused f (Err x) e = f x

  pub accepted : (r : Result A E) → is_err r ≡ false → code_by number_of r ≡ 0
  accepted (Ok a) e = refl
  accepted (Err x) e = true-not-false e

-- the number of the call: what comes before the survey comes first
unfoldable pub or_else : ℕ → ℕ → ℕ
or_else first then = pick (eqb first 0) then first

-- ---- before any series is read

module _ (cells : Bool) (unset limit : ℕ) (d : Directory) (s : Stores) where
  pub bar-stores : stores_suffice limit s ≡ false → unsurveyed cells unset limit d s ≡ 12
  unfolding unsurveyed pick
  bar-stores e = λ j. pick (e j && cells) (pick (eqb unset 0 && (leb limit most_sets && agreesb limit d s)) 0 8) 12

  module _ (r : stores_suffice limit s ≡ true) where
    pub bar-cells : cells ≡ false → unsurveyed cells unset limit d s ≡ 12
    unfolding unsurveyed pick
    bar-cells e = λ j. pick (r j && e j) (pick (eqb unset 0 && (leb limit most_sets && agreesb limit d s)) 0 8) 12

    module _ (c : cells ≡ true) where
      pub bar-unset : (unset ≡ 0 → ⊥) → unsurveyed cells unset limit d s ≡ 8
      unfolding unsurveyed pick
      bar-unset n = λ j. pick (r j && c j) (pick (ne_eqb unset 0 n j && (leb limit most_sets && agreesb limit d s)) 0 8) 12

      module _ (z : unset ≡ 0) where
        pub bar-limit : most_sets < limit → unsurveyed cells unset limit d s ≡ 8
        unfolding unsurveyed pick
        bar-limit h = λ j. pick (r j && c j) (pick (eq-eqb unset 0 z j && (lt-leb limit most_sets h j && agreesb limit d s)) 0 8) 12

        module _ (m : limit ≤ most_sets) where
          pub bar_directory : agreesb limit d s ≡ false → unsurveyed cells unset limit d s ≡ 8
          unfolding unsurveyed pick
          bar_directory e = λ j. pick (r j && c j) (pick (eq-eqb unset 0 z j && (le-leb limit most_sets m j && e j)) 0 8) 12

          pub bar-none : agreesb limit d s ≡ true → unsurveyed cells unset limit d s ≡ 0
          unfolding unsurveyed pick
          bar-none e = λ j. pick (r j && c j) (pick (eq-eqb unset 0 z j && (le-leb limit most_sets m j && e j)) 0 8) 12

-- ---- by what a survey found

few-left : (n a b : ℕ) → a < n → leb n (min a b) ≡ false
few-left n a b h = both_suffice a b n ∙ (λ i. lt-leb n a h i && leb n b)

few-right : (n a b : ℕ) → b < n → leb n (min a b) ≡ false
few-right n a b h = both_suffice a b n ∙ (λ i. leb n a && lt-leb n b h i) ∙ and-false (leb n a)

few-both : (n a b : ℕ) → n ≤ a → n ≤ b → leb n (min a b) ≡ true
few-both n a b h k = both_suffice a b n ∙ (λ i. le-leb n a h i && le-leb n b k i)

module _ (s : Survey) (sets words pos neg : ℕ) where
  abbrev counts : Bool
  counts = leb s.pos pos && leb s.neg neg

  pub number-unsound : s.sound ≡ false → surveyed_by s sets words pos neg ≡ 8
  unfolding surveyed_by pick
  number-unsound e = λ j. pick (e j) (pick (leb s.points (min sets words) && counts) 0 10) 8

  module _ (e : s.sound ≡ true) where
    pub number-sets : sets < s.points → surveyed_by s sets words pos neg ≡ 10
    unfolding surveyed_by pick
    number-sets h = λ j. pick (e j) (pick (few-left s.points sets words h j && counts) 0 10) 8

    module _ (a : s.points ≤ sets) where
      pub number-words : words < s.points → surveyed_by s sets words pos neg ≡ 10
      unfolding surveyed_by pick
      number-words h = λ j. pick (e j) (pick (few-right s.points sets words h j && counts) 0 10) 8

      module _ (b : s.points ≤ words) where
        pub number-pos : pos < s.pos → surveyed_by s sets words pos neg ≡ 10
        unfolding surveyed_by pick
        number-pos h = λ j. pick (e j) (pick (few-both s.points sets words a b j && (lt-leb s.pos pos h j && leb s.neg neg)) 0 10) 8

        module _ (c : s.pos ≤ pos) where
          pub number-neg : neg < s.neg → surveyed_by s sets words pos neg ≡ 10
          unfolding surveyed_by pick
          number-neg h = λ j. pick (e j) (pick (few-both s.points sets words a b j && (le-leb s.pos pos c j && lt-leb s.neg neg h j)) 0 10) 8

          pub number-none : s.neg ≤ neg → surveyed_by s sets words pos neg ≡ 0
          unfolding surveyed_by pick
          number-none h = λ j. pick (e j) (pick (few-both s.points sets words a b j && (le-leb s.pos pos c j && le-leb s.neg neg h j)) 0 10) 8
