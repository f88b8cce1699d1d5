-- What the tally holds after any calls: finite values, and no more of them than were recorded. Assumes nothing.
use Prim.Native.Nat.{ℕ, ◌+◌, ◌≤◌}
use mathlib.Core.Path.{◌≡◌, refl, sym}
use mathlib.Core.Bool.{Bool, true, false}
use mathlib.Core.List.{List, [], ◌∷◌, map}
use mathlib.Core.Option.{Option, none, some, get_or}
use native.Mathlib.Omega.{arith}
use lib.Dec.{leb}
use lib.ListN.{length, length-append}
use Rattle.laws.specs.Tests.{all}
use Rattle.laws.specs.Counting.{sum}
use Rattle.laws.proofs.Cases.{none-not-some}
use Rattle.laws.proofs.Perms.{all_append}
use Rattle.tally.specs.Sets.{Set, of_set, canonical}
use Rattle.tally.specs.Kind.{Kind, unless, first_of, suffices}
use Rattle.tally.specs.Map.{Config, Call, measure, measure_by, bind, release, collect, Answer, listed}
use Rattle.tally.specs.Tally.{Tally, Told, or_untold, joined, gathered, due, bound, beyond, tell, fed, after}
use Rattle.tally.specs.Demand.{counted}
use Rattle.tally.proofs.Logs.{values_append, finite-joined}

module _ (K : Kind) where
  pub record Clean (n : ℕ) (t : Tally K) : Type 0 where
    pub waiting : (s : Set) → all K.finite (of_set s t.waiting) ≡ true
    pub collected : (s : Set) → all K.finite (of_set s t.collected) ≡ true
    pub long : length t.waiting + length t.collected ≤ n

  clean-up : (n j : ℕ) (t : Tally K) → n ≤ j → Clean n t → Clean j t
  clean-up n j t l h = record { waiting = h.waiting; collected = h.collected; long = omega (arith, h.long) }

  clean-joined : (n : ℕ) (t : Tally K) (s : Set) (v : K.Value) → K.finite v ≡ true → Clean n t → Clean (n + 1) (joined K t s v).tally
  clean-joined n t s v f h =
      record {
        waiting = finite-joined K s v t.waiting h.waiting f;
        collected = h.collected;
        long = omega (arith, length-append t.waiting ((s, v) ∷ []), h.long);
      }

  clean-gathered : (n : ℕ) (t : Tally K) → Clean n t → Clean n (gathered K t)
  clean-gathered n t h =
      record {
        waiting = λ s. refl;
        collected = λ s. rw (values_append K s t.collected t.waiting) (all_append K.finite (of_set s t.collected) (of_set s t.waiting) (h.collected s) (h.waiting s));
        long = omega (arith, length-append t.collected t.waiting, h.long);
      }

  clean_or : (n : ℕ) (t : Tally K) (o : Option ℕ) (d : Told K) → Clean n t → (o ≡ none → Clean n d.tally) → Clean n (or_untold K t o d).tally
  clean_or n t (some i) d x y = x
  clean_or n t none d x y = y refl

  first_passes : (b : Bool) (n : ℕ) (l : List (Option ℕ)) → first_of (unless b n ∷ l) ≡ none → b ≡ true
  first_passes true n l e = refl
  first_passes false n l e = none-not-some (sym e)

  clean-tell : (c : Config K) (n : ℕ) (t : Tally K) (x : Call K) (b : ℕ) → Clean n t → Clean (n + counted K x) (tell K c t x b).tally
  unfolding tell
  clean-tell c n t (measure v attrs) b h =
      let s = canonical c.filter attrs in
      let l = unless (leb (length attrs) 8) 5 ∷ beyond K t s v ∷ [] in
      clean_or (n + 1) t (first_of (unless (K.finite v) 6 ∷ l)) (joined K t s v) (clean-up n (n + 1) t (omega arith) h) (λ e. clean-joined n t s v (first_passes (K.finite v) 6 l e) h)
  clean-tell c n t (measure_by j v) b h =
      let s = get_or (t.owner j) [] in
      let l = bound K t j ∷ beyond K t s v ∷ [] in
      clean_or (n + 1) t (first_of (unless (K.finite v) 6 ∷ l)) (joined K t s v) (clean-up n (n + 1) t (omega arith) h) (λ e. clean-joined n t s v (first_passes (K.finite v) 6 l e) h)
  clean-tell c n t (bind attrs) b h =
      let u = clean-up n (n + 1) t (omega arith) h in
      clean_or (n + 1) t (unless (leb (length attrs) 8) 5) _ u (λ e. record { waiting = u.waiting; collected = u.collected; long = u.long })
  clean-tell c n t (release j) b h =
      let u = clean-up n (n + 0) t (omega arith) h in
      clean_or (n + 0) t (bound K t j) _ u (λ e. record { waiting = u.waiting; collected = u.collected; long = u.long })
  clean-tell c n t (collect room) b h =
      let u = clean-up n (n + 0) t (omega arith) h in
      clean_or (n + 0) t (unless (suffices K room (map (λ p. p.1) (due K t))) 10) (record { answer = listed (due K t); tally = gathered K t }) u (λ e. clean-gathered (n + 0) t u)

  pub clean_after : (c : Config K) (xs : List (Call K)) (ans : List (Answer K)) (n : ℕ) (t : Tally K) → Clean n t → Clean (n + sum (counted K) xs) (after K c t xs ans)
  clean_after c [] ans n t h = clean-up n (n + 0) t (omega arith) h
  clean_after c (x ∷ xs) [] n t h = clean-up n (n + sum (counted K) (x ∷ xs)) t (omega arith) h
  clean_after c (x ∷ xs) (a ∷ ans) n t h =
      clean-up (n + counted K x + sum (counted K) xs) (n + sum (counted K) (x ∷ xs)) (after K c t (x ∷ xs) (a ∷ ans)) (omega arith)
      (clean_after c xs ans (n + counted K x) (tell K c t x (fed K a)).tally (clean-tell c n t x (fed K a) h))
