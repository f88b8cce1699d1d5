-- A list is judged fine just where its points are there and a sheet of them is written; the words are then counted. Assumes nothing.
use Prim.Native.Nat.{ℕ, zero, suc, ◌+◌, ◌-◌, ◌*◌, ◌≤◌}
use mathlib.Core.Path.{◌≡◌, refl, sym, ap, subst, ◌∙◌}
use mathlib.Core.Logic.{⊎_elim}
use mathlib.Core.Bool.{Bool, true, false, ◌&&◌, ◌||◌, and_assoc}
use mathlib.Core.List.{List, [], ◌∷◌, ◌++◌, map}
use mathlib.Core.Option
use mathlib.Core.Option.{Option, none, some}
use native.Mathlib.Omega.{arith}
use borrow.Author.Tests.{le-leb, lt-leb, eqb-false, ne_eqb}
use lib.Dec.{leb, ltb, eqb}
use lib.ListN.{length, get_or, length-append, length-map}
use Rattle.laws.specs.Pick.{pick}
use Rattle.laws.specs.Said.{refusal}
use Rattle.laws.specs.Tests.{all}
use Rattle.laws.proofs.Bools.{flag, not-both, and_left, and_right, and_intro, pick_true, pick-false}
use Rattle.laws.proofs.Cases.{true-not-false, some_inj, none-not-some, and-true}
use Rattle.laws.proofs.Differences.{le_or-lt}
use Rattle.floats.specs.Answers.{bits_of}
use Rattle.tally.specs.Sets.{Set, cmp}
use Rattle.sets.specs.Rows.{size, set_of, row_of, below}
use Rattle.sets.proofs.Keyed.{length-set-of}
use Rattle.point.specs.Handing.{Stored, agrees_alone}
use Rattle.listing.specs.Listed.{stored_at, read_from}
use Rattle.listing.specs.declared.Cursor.{Cursor}
use Rattle.listing.specs.declared.Entry as Listing
use Rattle.pooling.specs.Lists.{Source, whole_at}
use Rattle.records.specs.Records.{padded, width}
use Rattle.records.proofs.Records.{length-padded}
use Rattle.sheets.specs.Entries.{Entry, own_span, head_of, entry_words, entries_words, set_fine, exact, entry_fine, ascending}
use Rattle.sheets.specs.Inner.{row_fine}
use Rattle.sheets.specs.Sheet.{Sheet, most_points, same_list, writable}
use Rattle.sheets.specs.declared.Header.{Header}
use Rattle.sheets.proofs.EntryParts.{head-twelve}
use Rattle.sheets.proofs.SameLists.{no_test}
use Rattle.sheets.proofs.SetLaws.{length-row, row-few}
use Rattle.std.specs.Prelude.{None, Some}
use Rattle.std.specs.Prelude as Std
use Rattle.sheet_writing.specs.Inner.{origin, follows, row_taken, step_at, width_at, judged_from, judged}
use Rattle.sheets.specs.Lists.{whole_found, listed}
use Rattle.sheet_writing.specs.Writing.{Outcome, ends, writing_of, shadowed, no_whole, writing}
use Rattle.sheet_writing.proofs.Steps.{present, agreeing_in, step_is, Passed, step-passed, step-width}
use Rattle.sheet_writing.proofs.Steps.{whole-next, long-bounds, long-pos, long-neg, whole-exact, from_bad, from_more, judged-most, judged-over}

-- ---- the verdict on the points read

-- the first of them may stand behind the row before it
abbrev first_behind : ℕ → List (List ℕ) → List Entry → Bool
first_behind i sets [] = true
first_behind i sets (e ∷ es) = eqb i 0 || below (cmp (set_of (get_or sets (i - 1) [])) e.0)

abbrev good_from : Cursor → Source → List Entry → Bool
good_from at x es = first_behind at.place x.list.sets es && (ascending es && all entry_fine es)

abbrev pub verdict : Cursor → ℕ → Source → Option (List Entry) → Std.Option ℕ
verdict at k x none = None
verdict at k x (some es) = pick (good_from at x es) (Some (k + length (entries_words es))) None

-- the points from a cursor on
abbrev pub from : ℕ → Cursor → Source → Option (List Entry)
from n at x = read_from (whole_found x.bounds) n at x.list

abbrev row_here : Cursor → Source → List ℕ
row_here at x = get_or x.list.sets at.place []

abbrev pub entry_here : Cursor → Source → Listing.Entry → Entry
entry_here at x e = (set_of (row_here at x), stored_at at e x.bounds x.list)

-- the place has the row of a set
abbrev pub row_there : Cursor → Source → Bool
row_there at x = ltb at.place (length x.list.sets) && same_list (row_of (set_of (row_here at x))) (row_here at x)

-- ---- reading on

abbrev reading : ℕ → Cursor → Source → Option (Stored × Cursor) → Option (List Entry)
reading n at x y = elim y [ none ↦ none | some z ↦ Option.map (λ l. (set_of (row_here at x), z.0) ∷ l) (from n z.1 x) ]

module _ (n : ℕ) (at : Cursor) (x : Source) where
  pub rowless : row_there at x ≡ false → from (suc n) at x ≡ none
  rowless t = ap (reading n at x) (pick-false (row_there at x) _ none t)

  module _ (t : row_there at x ≡ true) where
    abbrev whole : Std.Option Listing.Entry → Option (Stored × Cursor)
    whole f = elim f [ None ↦ none | Some e ↦ some (stored_at at e x.bounds x.list, e.next) ]

    pub pointless : whole_at at x ≡ None → from (suc n) at x ≡ none
    pointless h = ap (reading n at x) (pick_true (row_there at x) (whole (whole_at at x)) none t ∙ ap whole h)

    pub read-on : (e : Listing.Entry) → whole_at at x ≡ Some e → from (suc n) at x ≡ Option.map (λ l. entry_here at x e ∷ l) (from n e.next x)
    read-on e h = ap (reading n at x) (pick_true (row_there at x) (whole (whole_at at x)) none t ∙ ap whole h)

-- ---- a point that passes

or_kept : (t a b c : Bool) → (t || (a && (b && c))) ≡ true → (t || c) ≡ true
or_kept true a b c h = refl
or_kept false a b c h = and_right b c (and_right a (b && c) h)

-- the first of the rest behind a set
abbrev head_behind : Set → List Entry → Bool
head_behind s [] = true
head_behind s (e ∷ es) = below (cmp s e.0)

ascending-more : (e : Entry) (es : List Entry) → ascending (e ∷ es) ≡ (head_behind e.0 es && ascending es)
ascending-more e [] = refl
ascending-more e (f ∷ es) = refl

next-behind : (i j : ℕ) → j ≡ i + 1 → (sets : List (List ℕ)) (es : List Entry) → first_behind j sets es ≡ head_behind (set_of (get_or sets i [])) es
next-behind i j h sets [] = refl
next-behind i j h sets (e ∷ es) =
    let m : j - 1 ≡ i = omega arith in
    λ a. ne_eqb j 0 (λ z. omega arith) a || below (cmp (set_of (get_or sets (m a) [])) e.0)

regroup : (f h a e r : Bool) → f ≡ true → e ≡ true → (f && ((h && a) && (e && r))) ≡ (h && (a && r))
regroup f h a e r p q = (λ i. p i && ((h && a) && (q i && r))) ∙ and_assoc h a r

-- the words of an entry
words_long : (s : Set) (p : Stored) → length s ≤ 8
    → length (entry_words (s, p)) ≡ 21 + (width (length p.bounds) + width (length p.pos + length p.neg))
unfolding entry_words
words_long s p h =
    let B = padded (map bits_of p.bounds) in
    let C = padded (p.pos ++ p.neg) in
    let b : length B ≡ width (length p.bounds) = length-padded (map bits_of p.bounds) ∙ ap width (length-map p.bounds bits_of) in
    let c : length C ≡ width (length p.pos + length p.neg) = length-padded (p.pos ++ p.neg) ∙ ap width (length-append p.pos p.neg) in
    omega (
      arith,
      h,
      b,
      c,
      length-row s,
      head-twelve p.point (own_span p),
      length-append B C,
      length-append (head_of p) (B ++ C),
      length-append (row_of s) (head_of p ++ (B ++ C)),
    )

module _ (at : Cursor) (x : Source) (e : Listing.Entry) (p : Passed at x e) where
  abbrev row : List ℕ
  row = row_here at x

  abbrev follow : Bool
  follow = follows at.place (get_or x.list.sets (at.place - 1) []) row

  row_here_lem : row_fine row ≡ true
  row_here_lem = and_left (row_fine row) follow (and_right (ltb at.place (length x.list.sets)) (row_fine row && follow) p.taken)

  set_here : set_fine (set_of row) ≡ true
  unfolding row_fine
  set_here = and_right (same_list (row_of (set_of row)) row) (set_fine (set_of row)) row_here_lem

  few-here : size row ≤ 8
  few-here = row-few row set_here

  there : row_there at x ≡ true
  unfolding row_fine
  there =
      and_intro (ltb at.place (length x.list.sets)) _ (and_left (ltb at.place (length x.list.sets)) (row_fine row && follow) p.taken)
      (and_left (same_list (row_of (set_of row)) row) (set_fine (set_of row)) row_here_lem)

  behind-here : (eqb at.place 0 || below (cmp (set_of (get_or x.list.sets (at.place - 1) [])) (set_of row))) ≡ true
  behind-here =
      or_kept (eqb at.place 0) (leb (size (get_or x.list.sets (at.place - 1) [])) 8) (leb (size row) 8) _
      (and_right (row_fine row) follow (and_right (ltb at.place (length x.list.sets)) (row_fine row && follow) p.taken))

  fine-here : entry_fine (entry_here at x e) ≡ true
  unfolding entry_fine
  fine-here = and_intro _ _ set_here (and_intro _ _ (whole-exact at x e p.whole) p.agrees)

  long-here : length (entry_words (entry_here at x e)) ≡ width_at at e
  long-here =
      let h = p.whole in
      words_long (set_of row) (stored_at at e x.bounds x.list) (omega (arith, few-here, length-set-of row))
      ∙ (λ i. 21 + (width (long-bounds at x e h i) + width (long-pos at x e h i + long-neg at x e h i)))

  good-here : (es : List Entry) → good_from at x (entry_here at x e ∷ es) ≡ good_from e.next x es
  good-here es =
      let n : e.next.place ≡ at.place + 1 = ap (λ (c : Cursor). c.place) (whole-next at x e p.whole) in
      ap (λ (t : Bool). first_behind at.place x.list.sets (entry_here at x e ∷ es) && (t && all entry_fine (entry_here at x e ∷ es)))
      (ascending-more (entry_here at x e) es)
      ∙ regroup _ (head_behind (set_of row) es) (ascending es) (entry_fine (entry_here at x e)) (all entry_fine es) behind-here fine-here
      ∙ ap (λ (t : Bool). t && (ascending es && all entry_fine es)) (sym (next-behind at.place e.next.place n x.list.sets es))

  verdict-on : (k : ℕ) (y : Option (List Entry)) → verdict e.next (k + width_at at e) x y ≡ verdict at k x (Option.map (λ l. entry_here at x e ∷ l) y)
  verdict-on k none = refl
  verdict-on k (some es) =
      let d = entry_here at x e in
      let w : k + width_at at e + length (entries_words es) ≡ k + length (entry_words d ++ entries_words es) =
      omega (arith, long-here, length-append (entry_words d) (entries_words es)) in
      λ i. pick (sym (good-here es) i) (Some (w i)) None

-- ---- and one that does not

-- the row before has at most 8 attributes: it was judged before
abbrev Prior : Cursor → Source → Type 0
Prior at x = (at.place ≡ 0 → ⊥) → size (get_or x.list.sets (at.place - 1) []) ≤ 8

follows_is : (i : ℕ) (a b : List ℕ) → ((i ≡ 0 → ⊥) → size a ≤ 8) → size b ≤ 8
    → (eqb i 0 || below (cmp (set_of a) (set_of b))) ≡ true → follows i a b ≡ true
follows_is i a b f g h =
    ⊎_elim
    (λ z. ap (λ (t : Bool). t || (leb (size a) 8 && (leb (size b) 8 && below (cmp (set_of a) (set_of b))))) z)
    (λ z. (λ j. z j || (le-leb (size a) 8 (f (eqb-false i 0 z)) j && (le-leb (size b) 8 g j && below (cmp (set_of a) (set_of b)))))
    ∙ sym (ap (λ (t : Bool). t || below (cmp (set_of a) (set_of b))) z)
    ∙ h)
    (flag (eqb i 0))

module _ (n : ℕ) (at : Cursor) (k : ℕ) (x : Source) (prior : Prior at x) (h : step_at at x ≡ None) where
  module _ (t : row_there at x ≡ true) (e : Listing.Entry) (w : whole_at at x ≡ Some e) where
    -- it would have passed
    not_good : (es : List Entry) → good_from at x (entry_here at x e ∷ es) ≡ true → ⊥
    unfolding entry_fine row_fine
    not_good es g =
        let d = entry_here at x e in
        let own = row_here at x in
        let s = x.list.sets in
        let prev = get_or s (at.place - 1) [] in
        let a = and-true (eqb at.place 0 || below (cmp (set_of prev) (set_of own))) _ g in
        let b = and-true (entry_fine d) (all entry_fine es) (and_right (ascending (d ∷ es)) _ a.1) in
        let c = and-true (set_fine (set_of own)) (exact d.1 && agrees_alone d.1) b.0 in
        let l = and-true (ltb at.place (length s)) (same_list (row_of (set_of own)) own) t in
        let fine : row_fine own ≡ true = and_intro _ _ l.1 c.0 in
        let taken : row_taken at.place s ≡ true =
        and_intro _ _ l.0 (and_intro _ _ fine (follows_is at.place prev own prior (row-few own c.0) a.0)) in
        let found : Some e ≡ step_at at x = agreeing_in at x (whole_at at x) e w (and_right (exact d.1) _ c.1) ∙ step_is at x taken in
        true-not-false (ap present (found ∙ h))

    rest_bad : (y : Option (List Entry)) → verdict at k x (Option.map (λ l. entry_here at x e ∷ l) y) ≡ None
    rest_bad none = refl
    rest_bad (some es) = pick-false (good_from at x (entry_here at x e ∷ es)) _ None (no_test _ (not_good es))

  by_whole : row_there at x ≡ true → (f : Std.Option Listing.Entry) → whole_at at x ≡ f → verdict at k x (from (suc n) at x) ≡ None
  by_whole t None w = ap (verdict at k x) (pointless n at x t w)
  by_whole t (Some e) w = ap (verdict at k x) (read-on n at x t e w) ∙ rest_bad t e w (from n e.next x)

  verdict_bad : verdict at k x (from (suc n) at x) ≡ None
  verdict_bad =
      ⊎_elim (λ t. by_whole t (whole_at at x) refl) (λ t. ap (verdict at k x) (rowless n at x t)) (flag (row_there at x))

-- ---- the judgement is the verdict

module _ (x : Source) where
  step-is-verdict : (n : ℕ) → ((at : Cursor) (k : ℕ) → Prior at x → judged_from n at k x ≡ verdict at k x (from n at x))
      → (at : Cursor) (k : ℕ) → Prior at x → (f : Std.Option Listing.Entry) → step_at at x ≡ f → judged_from (suc n) at k x ≡ verdict at k x (from (suc n) at x)
  step-is-verdict n again at k prior None h = from_bad n at k x h ∙ sym (verdict_bad n at k x prior h)
  step-is-verdict n again at k prior (Some e) h =
      let p = step-passed at x e h in
      let m : e.next.place ≡ at.place + 1 = ap (λ (c : Cursor). c.place) (whole-next at x e p.whole) in
      let i : at.place ≡ e.next.place - 1 = omega (arith, m) in
      from_more n at k x e h
      ∙ again e.next (k + width_at at e) (λ _. subst (λ (j : ℕ). size (get_or x.list.sets j []) ≤ 8) i (few-here at x e p))
      ∙ verdict-on at x e p k (from n e.next x)
      ∙ ap (verdict at k x) (sym (read-on n at x (there at x e p) e p.whole))

  judged-is : (n : ℕ) (at : Cursor) (k : ℕ) → Prior at x → judged_from n at k x ≡ verdict at k x (from n at x)
  unfolding pick
  judged-is zero at k prior = let z : k ≡ k + 0 = omega arith in ap Some z
  judged-is (suc n) at k prior = step-is-verdict n (judged-is n) at k prior (step_at at x) refl

-- ---- as many points as were asked for

more-read : (n : ℕ) (e : Entry) (y : Option (List Entry)) → ((es : List Entry) → y ≡ some es → length es ≡ n)
    → (es : List Entry) → Option.map (λ l. e ∷ l) y ≡ some es → length es ≡ suc n
more-read n e none f es h = none-not-some h
more-read n e (some l) f es h = ap length (sym (some_inj h)) ∙ ap suc (f l refl)

module _ (x : Source) where
  found-read : (n : ℕ) (at : Cursor) → ((c : Cursor) (es : List Entry) → from n c x ≡ some es → length es ≡ n)
      → (y : Option (Stored × Cursor)) (es : List Entry) → reading n at x y ≡ some es → length es ≡ suc n
  found-read n at again none es h = none-not-some h
  found-read n at again (some z) es h = more-read n (set_of (row_here at x), z.0) (from n z.1 x) (again z.1) es h

  read-many : (n : ℕ) (at : Cursor) (es : List Entry) → from n at x ≡ some es → length es ≡ n
  read-many zero at es h = ap length (sym (some_inj h))
  read-many (suc n) at es h = found-read n at (read-many n) (whole_found x.bounds at x.list) es h

-- ---- what a judgement says

abbrev is_fine : Std.Option ℕ → Bool
is_fine None = false
is_fine (Some c) = true

abbrev cells_of : Std.Option ℕ → ℕ
cells_of None = 0
cells_of (Some c) = c

picked_bad : (t : Bool) (c : ℕ) → pick t (Some c) None ≡ None → t ≡ false
unfolding pick
picked_bad true c h = ap is_fine h
picked_bad false c h = refl

picked-fine : (t : Bool) (m c : ℕ) → pick t (Some m) None ≡ Some c → (t ≡ true) × (m ≡ c)
unfolding pick
picked-fine true m c h = (refl, ap cells_of h)
picked-fine false m c h = true-not-false (sym (ap is_fine h))

-- nothing stands before the first
first_good : (x : Source) (es : List Entry) → good_from origin x es ≡ (ascending es && all entry_fine es)
first_good x [] = refl
first_good x (e ∷ es) = refl

-- the points of a list that was judged fine: they are all there, a sheet of them is written, and it has so many words behind its header's
pub record Sheeted (h : Header) (n : ℕ) (x : Source) (c : ℕ) : Type 0 where
  pub es : List Entry
  pub read : listed n x ≡ some es
  pub many : length es ≡ n
  pub fine : writable (record { header = h; points = es }) ≡ true
  pub words : length (entries_words es) ≡ c

module _ (h : Header) (n : ℕ) (x : Source) where
  pub whole-verdict : n ≤ 64 → judged n x ≡ verdict origin 0 x (listed n x)
  whole-verdict l = sym (judged-most n x l) ∙ judged-is x n origin 0 (λ z. absurd (z refl))

  unwritable : judged n x ≡ None → (es : List Entry) → listed n x ≡ some es → writable (record { header = h; points = es }) ≡ false
  unfolding writable
  unwritable j es e =
      let t = leb (length es) most_points in
      let g = ascending es && all entry_fine es in
      ⊎_elim
      (λ l.
      let v : verdict origin 0 x (some es) ≡ None = ap (verdict origin 0 x) (sym e) ∙ sym (whole-verdict l) ∙ j in
      let f : g ≡ false = sym (first_good x es) ∙ picked_bad (good_from origin x es) _ v in
      no_test (t && g) (λ w. not-both g (and_right t g w) f))
      (λ l.
      let f : t ≡ false = lt-leb (length es) most_points (omega (arith, l, read-many x n origin es e)) in
      ap (λ (b : Bool). b && g) f)
      (le_or-lt n 64)

  of-fine : (c : ℕ) → n ≤ 64 → (y : Option (List Entry)) → listed n x ≡ y → verdict origin 0 x y ≡ Some c → Sheeted h n x c
  unfolding writable
  of-fine c l none e v = true-not-false (sym (ap is_fine v))
  of-fine c l (some es) e v =
      let p = picked-fine (good_from origin x es) (0 + length (entries_words es)) c v in
      let m = read-many x n origin es e in
      record {
        es = es;
        read = e;
        many = m;
        fine = and_intro (leb (length es) most_points) _ (le-leb (length es) most_points (omega (arith, l, m))) (sym (first_good x es) ∙ p.0);
        words = omega (arith, p.1);
      }

  pub judged-fine : (c : ℕ) → judged n x ≡ Some c → Sheeted h n x c
  judged-fine c j =
      ⊎_elim
      (λ l. of-fine c l (listed n x) refl (sym (whole-verdict l) ∙ j))
      (λ l. true-not-false (sym (ap is_fine (judged-over n x l ∙ j))))
      (le_or-lt n 64)

-- ---- a list that was judged fine, point by point

pub record Turn (n : ℕ) (at : Cursor) (k : ℕ) (x : Source) (c : ℕ) : Type 0 where
  pub e : Listing.Entry
  pub step : step_at at x ≡ Some e
  pub rest : judged_from n e.next (k + width_at at e) x ≡ Some c

module _ (x : Source) (c : ℕ) where
  turn_by : (n : ℕ) (at : Cursor) (k : ℕ) → judged_from (suc n) at k x ≡ Some c → (f : Std.Option Listing.Entry) → step_at at x ≡ f → Turn n at k x c
  turn_by n at k j None h = true-not-false (sym (ap is_fine (sym (from_bad n at k x h) ∙ j)))
  turn_by n at k j (Some e) h = record { e = e; step = h; rest = sym (from_more n at k x e h) ∙ j }

  pub from-fine : (n : ℕ) (at : Cursor) (k : ℕ) → judged_from (suc n) at k x ≡ Some c → Turn n at k x c
  from-fine n at k j = turn_by n at k j (step_at at x) refl

  -- how many words there can be
  pub from-few : (n : ℕ) (at : Cursor) (k : ℕ) → judged_from n at k x ≡ Some c → (k ≤ c) × (c ≤ k + 342 * n)
  from-few zero at k j = let e : k ≡ c = ap cells_of j in (omega arith, omega arith)
  from-few (suc n) at k j =
      let t = from-fine n at k j in
      let r = from-few n t.e.next (k + width_at at t.e) t.rest in
      (omega (arith, r.0), omega (arith, r.1, step-width at x t.e t.step))

  pub judged-few : (n : ℕ) → judged n x ≡ Some c → (n ≤ 64) × (judged_from n origin 0 x ≡ Some c) × (c ≤ 21888)
  judged-few n j =
      ⊎_elim
      (λ (l : n ≤ 64). let f = judged-most n x l ∙ j in (l, f, omega (arith, l, (from-few n origin 0 f).1)))
      (λ l. true-not-false (sym (ap is_fine (judged-over n x l ∙ j))))
      (le_or-lt n 64)

-- ---- a list that was judged bad

module _ (h : Header) (n : ℕ) (x : Source) (out : List ℕ) where
  -- 8 whether or not there is a point of i64 values
  eight : (t w : Bool) (o : Outcome) → w ≡ false → o ≡ ends (refusal 8) out → pick t o (ends (refusal (pick w 11 8)) out) ≡ ends (refusal 8) out
  unfolding pick
  eight true w o e p = p
  eight false w o e p = ap (λ (b : Bool). ends (refusal (pick b 11 8)) out) e

  refused : (y : Option (List Entry)) → ((es : List Entry) → y ≡ some es → writable (record { header = h; points = es }) ≡ false)
      → elim y [
        | none ↦ ends (refusal 8) out
        | some es ↦
            let t : Sheet = record { header = h; points = es } in
            pick (no_whole n x) (writing_of t out) (ends (refusal (pick (writable t) 11 8)) out)
      ] ≡ ends (refusal 8) out
  unfolding writing_of
  refused none f = refl
  refused (some es) f =
      let t : Sheet = record { header = h; points = es } in
      eight (no_whole n x) (writable t) (writing_of t out) (f es refl) (pick-false (writable t) _ _ (f es refl))

  pub judged_bad : judged n (shadowed x) ≡ None → writing h n x out ≡ ends (refusal 8) out
  unfolding writing
  judged_bad j = refused (listed n (shadowed x)) (unwritable h n (shadowed x) j)
