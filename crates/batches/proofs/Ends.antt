-- A BATCH BY HANDLE, AND ONE INTO A SET, as a kind's code comes by them: what its seating allows and shows, its end, and a batch of one value,
-- which is the single call. For any kind that pays what it owes. Assumes nothing.
use Prim.Native.Nat.{ℕ, suc, ◌+◌, ◌^◌, ◌<◌}
use mathlib.Core.Path.{◌≡◌, refl, ap, sym, subst, ◌∙◌}
use mathlib.Core.Logic.{⊎_elim}
use mathlib.Core.Bool.{Bool, true, false, ◌&&◌}
use mathlib.Core.List.{List, [], ◌∷◌}
use mathlib.Core.Option.{Option, none}
use native.Mathlib.Omega.{arith}
use lib.Dec.{eqb, leb}
use lib.ListN.{length, get_or, drop, replicate}
use lib.Seq.{drop-cons}
use borrow.Author.Tests.{leb-true}
use Rattle.laws.specs.Pick.{pick}
use Rattle.laws.specs.Said.{refusal, success, number}
use Rattle.laws.proofs.Bools.{flag}
use Rattle.laws.proofs.Cases.{and-true}
use Rattle.rows.specs.Recording.{Recording}
use Rattle.refusals.specs.Refusals.{code}
use Rattle.refusals.specs.declared.Refusal.{Refusal}
use Rattle.many.specs.Many.{Many, many, one_more, each}
use Rattle.many.proofs.Turns.{either, each_on, each-stop, each_none}
use Rattle.many.proofs.Alike.{pick_first, pick_second}
use Rattle.tally.specs.Kind.{Kind}
use Rattle.tally.specs.Sets.{Set, canonical, Lendable}
use Rattle.sets.specs.Rows.{row_of}
use Rattle.sets.specs.Sorted.{given}
use Rattle.directory.specs.View.{Stores, agreesb}
use Rattle.directory.specs.Calls.{Kept, most_sets, few_keys, accepts, stores_suffice}
use Rattle.bindings.specs.Calls.{said}
use Rattle.bindings.specs.declared.Reply.{Reply}
use Rattle.seats.specs.Seats.{away, seated, seated_by, barred_by, unless_barred, committed, Seating}
use Rattle.seats.specs.Inner.{Sure, Fits}
use Rattle.seats.proofs.Seatings.{seat-no, by-no}
use Rattle.value_map.specs.Store.{Store}
use Rattle.value_map.specs.Calls.{Held, Outcome, held, gave, unless_refused, passes, lent, entered, called, measured, measured_by}
use Rattle.value_map.proofs.Owed.{Owed}
use Rattle.value_map.proofs.Cases.{lent-dir, lent-cells, set-seatable, by-seatable, stop, on}
use Rattle.batches.specs.Agreed.{Agreed, SoundAt, AgreedBy, AgreedFor}
use Rattle.batches.specs.Batch.{one, measured_all, measured_all_by}
use Rattle.batches.specs.Inner.{recorded_all, TakesAll, unless_stopped, finished_all, answer_of}
use Rattle.batches.specs.declared.Batch.{Batch}
use Rattle.batches.proofs.Again.{seat_of, seat_by, set-again, handle-again}
use Rattle.batches.proofs.Batches as Batches
use Rattle.batches.proofs.Batches.{Course}

-- a list that is not empty, read as the code reads it
pub cut-first : {A : Type 0} (l : List A) (nought : A) → 0 < length l → l ≡ get_or l 0 nought ∷ drop 1 l
cut-first l nought h = drop-cons l 0 nought h

-- ---- the two ways

-- a seat that is not refused found the directory agreeing
module _ (limit : ℕ) (k : Kept) where
  agreeing : (a : Seating) → a.no ≡ 0 → (agreesb limit k.dir k.stores ≡ false → a ≡ away 8) → agreesb limit k.dir k.stores ≡ true
  agreeing a z f =
      ⊎_elim (λ (t : agreesb limit k.dir k.stores ≡ true). t)
      (λ (t : agreesb limit k.dir k.stores ≡ false). absurd (let i = ap (λ (s : Seating). s.no) (sym (f t)) ∙ z in omega (arith, i)))
      (flag (agreesb limit k.dir k.stores))

module _ {K : Kind} {S : Store K} (W : Owed S) (limit : ℕ) where
  abbrev by-course : (b : ℕ) → Course S limit 0 (leb limit most_sets) (replicate 9 0)
  by-course b =
      record {
        seat = seat_by limit b;
        agrees = λ k z. agreeing limit k (seat_by limit b k) z (by-no limit k.dir k.stores b);
        sits = λ h l a. by-seatable W limit h l b (seat_by limit b h.kept) refl;
        again = λ few k g n. handle-again limit b (replicate 9 0) k g n;
      }

  abbrev set-course : (filter : Option (List ℕ)) (attrs : Set) → Lendable attrs → Course S limit (length attrs) (accepts limit filter) (row_of (canonical filter attrs))
  set-course filter attrs small =
      let row = row_of (canonical filter attrs) in
      record {
        seat = seat_of limit row;
        agrees = λ k z. agreeing limit k (seat_of limit row k) z (seat-no limit k.dir k.stores row);
        sits = λ h l a. set-seatable W limit h l filter a row (seat_of limit row h.kept) refl;
        again = λ few k g n. set-again limit filter attrs small few k g n;
      }

-- ---- what is known of a map that agrees is not asked again

module _ {K : Kind} {S : Store K} (W : Owed S) (w : S.Switches) (limit : ℕ) (h : Held S.Cells) (slots u : ℕ) (p : leb (limit + 2) slots ≡ S.suffices limit h.cells) (s : u ≡ S.unset) where
  sure-of : (filter : Option (List ℕ)) (ok : Bool) → ok ≡ true → Agreed S limit filter h → Sure slots u limit h.kept.dir h.kept.stores ok
  sure-of filter ok k g =
      let l = lent-dir W limit h g.lent_is in
      record {
        sets = l.sets;
        entries = l.entries;
        order = l.order;
        cells = leb-true (limit + 2) slots (p ∙ lent-cells W limit h g.lent_is);
        set = s ∙ g.set;
        accepted = k;
        agrees = g.agrees;
      }

  pub sure-by : (b : ℕ) → AgreedBy S w limit h b → Sure slots u limit h.kept.dir h.kept.stores (leb limit most_sets)
  sure-by b g = sure-of none (leb limit most_sets) (and-true (leb limit most_sets) (few_keys none) g.0.accepted).0 g.0

  pub sure_for : (filter : Option (List ℕ)) (attrs : Set) → AgreedFor S w limit filter h attrs → Sure slots u limit h.kept.dir h.kept.stores (accepts limit filter)
  sure_for filter attrs g = sure-of filter (accepts limit filter) g.0.accepted g.0

-- the touched series is known to agree, if that is known where the call goes
known_at : {K : Kind} (S : Store K) (w : S.Switches) (h : Held S.Cells) (known : Bool) (x a : Seating) → x ≡ a → (known ≡ true → SoundAt S w h x) → known ≡ true → SoundAt S w h a
known_at S w h known x a e f k = subst (SoundAt S w h) e (f k)

-- ---- BY HANDLE: v is the first value; c says whether the cells suffice, f whether v is finite, u is the number of the settings, a the seating

module _ {K : Kind} {S : Store K} (W : Owed S) (w : S.Switches) (limit : ℕ) (h : Held S.Cells) (b : ℕ) where
  -- no value, no call
  pub by-none : (l : List K.Value) → length l ≡ 0 → many 0 0 h ≡ measured_all_by S limit h l b
  unfolding measured_all_by
  by-none [] e = sym (each_none (λ m v. one (measured_by S limit m v b)) h)
  by-none (v ∷ vs) e = absurd (omega (arith, e))

  module _ (v : K.Value) {c f : Bool} {u : ℕ} {a : Seating} (p : c ≡ S.suffices limit h.cells) (q : f ≡ K.finite v) (s : u ≡ S.unset)
      (e : a ≡ unless_barred (barred_by (stores_suffice limit h.kept.stores && c) f 0 (eqb u 0 && leb limit most_sets)) (seated_by limit h.kept.dir h.kept.stores b)) where
    pub by-takes : (known : Bool) → (known ≡ true → AgreedBy S w limit h b) → TakesAll S w known h.cells a.no a.slot a.updated
    by-takes known g z = (
      Batches.set_is W w limit 0 _ _ (by-course W limit b) h v p q s e z,
      (Batches.sits-there W w limit 0 _ _ (by-course W limit b) h v p q s e z z).0,
      known_at S w h known (seat_by limit b h.kept) a (Batches.same-seat W w limit 0 _ _ (by-course W limit b) h v p q s e z) (λ k. (g k).1),
    )

    -- refused: nothing was taken
    pub by-away : (a.no ≡ 0 → ⊥) → (l vs : List K.Value) → l ≡ v ∷ vs → many 0 a.no h ≡ measured_all_by S limit h l b
    unfolding measured_all_by measured_by
    by-away d l vs cut =
        Batches.off W w limit 0 _ _ (by-course W limit b) h v p q s e d vs ∙ ap (λ (i : List K.Value). measured_all_by S limit h i b) (sym cut)

    pub by-finite : a.no ≡ 0 → K.finite v ≡ true
    by-finite z = Batches.finite-first W w limit 0 _ _ (by-course W limit b) h v p q s e z

    -- the slot left m of the list l, which begins with v
    module _ (l vs : List K.Value) (cut : l ≡ v ∷ vs) (m : Many S.Cells) (t : m ≡ unless_stopped a.no h.cells (recorded_all S a.slot a.updated h.cells l)) where
      pub by_fits : (m.taken ≡ 0 → ⊥) → Fits h.kept.dir h.kept.stores a.target
      by_fits k = Batches.fits-there W w limit 0 _ _ (by-course W limit b) h v p q s e l vs cut m t k

      pub by-ends : h.kept.dir.last < 2 ^ 64 → (r : Many Kept) → r ≡ many m.taken m.no (finished_all m.taken h.kept.dir h.kept.stores (replicate 9 0) a.target)
          → many r.taken r.no (record { kept = r.left; cells = m.left }) ≡ measured_all_by S limit h l b
      unfolding measured_all_by measured_by
      by-ends small r g = Batches.ends W w limit 0 _ _ (by-course W limit b) h v p q s e l vs cut m t small (replicate 9 0) (λ z. refl) r g

-- ---- BY SET

module _ {K : Kind} {S : Store K} (W : Owed S) (w : S.Switches) (limit : ℕ) (filter : Option (List ℕ)) (h : Held S.Cells) (attrs : Set) where
  abbrev row : List ℕ
  row = row_of (canonical filter attrs)

  pub for-none : (l : List K.Value) → length l ≡ 0 → many 0 0 h ≡ measured_all S limit filter h l attrs
  unfolding measured_all
  for-none [] e = sym (each_none (λ m v. one (measured S limit filter m v attrs)) h)
  for-none (v ∷ vs) e = absurd (omega (arith, e))

  module _ (small : Lendable attrs) (v : K.Value) {c f : Bool} {u : ℕ} {a : Seating} (p : c ≡ S.suffices limit h.cells) (q : f ≡ K.finite v) (s : u ≡ S.unset)
      (e : a ≡ unless_barred (barred_by (stores_suffice limit h.kept.stores && c) f (length attrs) (eqb u 0 && accepts limit filter)) (seated limit h.kept.dir h.kept.stores row)) where
    abbrev course : Course S limit (length attrs) (accepts limit filter) row
    course = set-course W limit filter attrs small

    pub for-takes : (known : Bool) → (known ≡ true → AgreedFor S w limit filter h attrs) → TakesAll S w known h.cells a.no a.slot a.updated
    for-takes known g z = (
      Batches.set_is W w limit _ _ _ course h v p q s e z,
      (Batches.sits-there W w limit _ _ _ course h v p q s e z z).0,
      known_at S w h known (seat_of limit row h.kept) a (Batches.same-seat W w limit _ _ _ course h v p q s e z) (λ k. (g k).1),
    )

    pub for-away : (a.no ≡ 0 → ⊥) → (l vs : List K.Value) → l ≡ v ∷ vs → many 0 a.no h ≡ measured_all S limit filter h l attrs
    unfolding measured_all measured
    for-away d l vs cut =
        Batches.off W w limit _ _ _ course h v p q s e d vs ∙ ap (λ (i : List K.Value). measured_all S limit filter h i attrs) (sym cut)

    pub for-finite : a.no ≡ 0 → K.finite v ≡ true
    for-finite z = Batches.finite-first W w limit _ _ _ course h v p q s e z

    module _ (l vs : List K.Value) (cut : l ≡ v ∷ vs) (m : Many S.Cells) (t : m ≡ unless_stopped a.no h.cells (recorded_all S a.slot a.updated h.cells l)) where
      pub for-fits : (m.taken ≡ 0 → ⊥) → Fits h.kept.dir h.kept.stores a.target
      for-fits k = Batches.fits-there W w limit _ _ _ course h v p q s e l vs cut m t k

      -- `given` is the row that the seating left
      pub for-ends : h.kept.dir.last < 2 ^ 64 → (given : List ℕ) → (a.no ≡ 0 → given ≡ row) → (r : Many Kept)
          → r ≡ many m.taken m.no (finished_all m.taken h.kept.dir h.kept.stores given a.target)
          → many r.taken r.no (record { kept = r.left; cells = m.left }) ≡ measured_all S limit filter h l attrs
      unfolding measured_all measured
      for-ends last given same r g = Batches.ends W w limit _ _ _ course h v p q s e l vs cut m t last given same r g

-- ---- A BATCH OF ONE VALUE is the single call

module _ {Cells : Type 0} where
  -- what a call says is told by its number
  abbrev Told : Outcome Cells → Type 0
  Told o = o.answer ≡ answer_of (number o.answer)

  unless-told : (h : Held Cells) (n : ℕ) (o : Outcome Cells) → Told o → Told (unless_refused h n o)
  unfolding answer_of
  unless-told h n o k =
      either n (λ z. subst Told (sym (on h n o z)) k)
      (λ d. subst Told (sym (stop h n o d)) (sym (pick_second n d (success none) (refusal n))))

  one_left : {A : Type 0} (f : Held Cells → A → Recording (Held Cells)) (h : Held Cells) (v : A) → ((each f h (v ∷ [])).no ≡ (f h v).no) × ((each f h (v ∷ [])).left ≡ (f h v).cells)
  one_left f h v =
      either (f h v).no
      (λ z.
      let e = each_on f h v [] z ∙ ap one_more (each_none f (f h v).cells) in
      (ap (λ (m : Many (Held Cells)). m.no) e ∙ sym z, ap (λ (m : Many (Held Cells)). m.left) e))
      (λ d. let e = each-stop f h v [] d in (ap (λ (m : Many (Held Cells)). m.no) e, ap (λ (m : Many (Held Cells)). m.left) e))

  -- the batch x of one value, what the single call r replies of it, and the call o
  replied : {A : Type 0} (f : Held Cells → A → Recording (Held Cells)) (h : Held Cells) (v : A) (o : Outcome Cells) → f h v ≡ one o → Told o
      → (x : Batch Refusal) (r : Reply Refusal) → (said r.answer ≡ answer_of (code x.end)) × (r.dir ≡ x.dir)
      → (s : Stores) (c : Cells) → many x.taken (code x.end) (held x.dir s c) ≡ each f h (v ∷ []) → gave r s c ≡ o
  replied f h v o e k x r g s c i =
      let n : code x.end ≡ number o.answer = ap (λ (m : Many (Held Cells)). m.no) i ∙ (one_left f h v).0 ∙ ap (λ (y : Recording (Held Cells)). y.no) e in
      let l : held x.dir s c ≡ o.held = ap (λ (m : Many (Held Cells)). m.left) i ∙ (one_left f h v).1 ∙ ap (λ (y : Recording (Held Cells)). y.cells) e in
      (λ j. record { answer = g.0 j; held = held (g.1 j) s c })
      ∙ (λ j. record { answer = answer_of (n j); held = l j })
      ∙ (λ j. record { answer = sym k j; held = o.held })

module _ {K : Kind} (S : Store K) (limit : ℕ) (h : Held S.Cells) (v : K.Value) where
  done-told : (k : Kept) (c : S.Cells) → Told (record { answer = success none; held = record { kept = k; cells = c } })
  unfolding answer_of pick
  done-told k c = refl

  entered-told : (row : List ℕ) (a : Seating) → Told (entered S h v row a)
  unfolding entered
  entered-told row a =
      let o = S.recorded a.slot a.updated h.cells v in
      let k = committed h.kept.dir h.kept.stores row a.target in
      let done : Outcome S.Cells = record { answer = success none; held = record { kept = k; cells = o.cells } } in
      unless-told h a.no (unless_refused h o.no done) (unless-told h o.no done (done-told k o.cells))

  called-told : (n : ℕ) (ok : Bool) (row : List ℕ) (a : Seating) → Told (called S limit h v n ok row a)
  unfolding called
  called-told n ok row a = entered-told row (unless_barred (barred_by (lent S limit h) (K.finite v) n (passes S && ok)) a)

  module _ (x : Batch Refusal) (r : Reply Refusal) (g : (said r.answer ≡ answer_of (code x.end)) × (r.dir ≡ x.dir)) (s : Stores) (c : S.Cells) where
    pub one-by : (b : ℕ) → many x.taken (code x.end) (held x.dir s c) ≡ measured_all_by S limit h (v ∷ []) b → gave r s c ≡ measured_by S limit h v b
    unfolding measured_all_by measured_by
    one-by b e =
        replied (λ m y. one (measured_by S limit m y b)) h v (measured_by S limit h v b) refl
        (called-told 0 (leb limit most_sets) (replicate 9 0) (seated_by limit h.kept.dir h.kept.stores b)) x r g s c e

    pub one_for : (filter : Option (List ℕ)) (attrs : Set) → many x.taken (code x.end) (held x.dir s c) ≡ measured_all S limit filter h (v ∷ []) attrs
        → gave r s c ≡ measured S limit filter h v attrs
    unfolding measured_all measured
    one_for filter attrs e =
        let row = row_of (canonical filter attrs) in
        replied (λ m y. one (measured S limit filter m y attrs)) h v (measured S limit filter h v attrs) refl
        (called-told (length attrs) (accepts limit filter) row (seated limit h.kept.dir h.kept.stores row)) x r g s c e

-- ---- what the code's own functions return

module _ (n : ℕ) where
  pub answer-done : n ≡ 0 → success none ≡ answer_of n
  unfolding answer_of
  answer-done e = sym (pick_first n e (success none) (refusal n))

  pub answer-no : (n ≡ 0 → ⊥) → refusal n ≡ answer_of n
  unfolding answer_of
  answer-no d = sym (pick_second n d (success none) (refusal n))

-- attributes each of which is lent
pub each-lent : (l : List (List ℕ)) → ((k : ℕ) → k < length l → (get_or (get_or l k []) 0 0 < 4294967296) × (get_or (get_or l k []) 1 0 < 4294967296)) → Lendable (given l)
each-lent [] h = tt
each-lent (a ∷ l) h = (h 0 (omega arith), each-lent l (λ k i. h (suc k) (omega (arith, i))))
