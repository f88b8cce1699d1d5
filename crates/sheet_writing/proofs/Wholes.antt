-- Points of i64 values in a list that is to be written: each is there and agrees where its shadow does; without any, the list of shadows is the list;
-- and which words tell them. Assumes nothing.
use Prim.Native.Nat.{ℕ, zero, suc, ◌+◌, ◌≤◌, ◌<◌}
use mathlib.Core.Path.{◌≡◌, refl, sym, ap, ap₂, subst, ◌∙◌}
use mathlib.Core.Logic.{⊎_elim}
use mathlib.Core.Bool.{Bool, true, false, not, ◌&&◌}
use mathlib.Core.List.{List, [], ◌∷◌, map}
use mathlib.Core.Option
use mathlib.Core.Option.{Option, none, some}
use native.Mathlib.Nat.{eq-or-lt_of_le}
use native.Mathlib.Omega.{arith}
use borrow.Author.Tests.{not-true}
use lib.Dec.{leb}
use lib.ListN.{length, get_or, length-map, get_or-map}
use Rattle.laws.specs.Pick.{pick}
use Rattle.laws.specs.Said.{refusal}
use Rattle.laws.proofs.Bools.{flag, not-both, pick_true, pick-false}
use Rattle.laws.proofs.Differences.{le_or-lt}
use Rattle.sets.proofs.Alls.{allb-none, allb-more, allb-no, allb-at, allb-yes}
use Rattle.point.specs.declared.Point as P
use Rattle.point.specs.Handing.{agrees_alone}
use Rattle.whole_point.specs.Handing.{alone_number}
use Rattle.whole_point.proofs.Call.{alone_law}
use Rattle.listing.specs.Words as F
use Rattle.listing.specs.Listed.{behind, within, entry_in, point_at, stored_at}
use Rattle.listing.specs.declared.Cursor.{Cursor}
use Rattle.listing.specs.declared.Entry.{Entry}
use Rattle.whole_listing.specs.Words.{shadow_words, point_in, bounds_in, is_point}
use Rattle.whole_listing.specs.Listed as W
use Rattle.whole_listing.specs.declared.Entry as WE
use Rattle.whole_listing.proofs.Reading.{shadow_in, shadow-is}
use Rattle.whole_listing.proofs.Readers.{shadow_entry, kind-whole, kind-real}
use Rattle.pooling.specs.Lists.{Source, bounded, whole_at}
use Rattle.pooling.proofs.Whole.{whole-told}
use Rattle.sheets.specs.Entries as S
use Rattle.sheets.specs.Sheet.{Sheet, writable}
use Rattle.sheets.specs.Lists.{listed}
use Rattle.sheets.specs.declared.Header.{Header}
use Rattle.std.specs.Prelude.{Some, None}
use Rattle.std.specs.Prelude as Std
use Rattle.sheet_writing.specs.Inner.{origin, shadow_found, judged, no_kind}
use Rattle.sheet_writing.specs.Writing.{Outcome, ends, writing_of, shadowed_row, shadowed, no_whole, writing}
use Rattle.sheet_writing.proofs.Steps.{whole-next, judged-over}
use Rattle.sheet_writing.proofs.Judged.{from, row_there, entry_here, rowless, pointless, read-on, verdict, whole-verdict, judged-fine}
use Rattle.sheet_writing.proofs.PutLaws.{cut}

-- ---- the kind, word 0

-- words of a lesser kind are no i64 point's
not-whole : (w : List ℕ) → leb 2 (get_or w 0 0) ≡ false → is_point w ≡ false
not-whole w h = go (is_point w) refl
  where
    go : (t : Bool) → is_point w ≡ t → t ≡ false
    go true e = absurd (not-both (leb 2 (get_or w 0 0)) (kind-whole w e) h)
    go false e = refl

-- and words of a greater one no f64 point's
not-real : (w : List ℕ) → leb 2 (get_or w 0 0) ≡ true → F.is_point w ≡ false
not-real w h = go (F.is_point w) refl
  where
    go : (t : Bool) → F.is_point w ≡ t → t ≡ false
    go true e = absurd (not-both (leb 2 (get_or w 0 0)) h (kind-real w e))
    go false e = refl

-- ---- the list of shadows, row by row

row-real : (w : List ℕ) → is_point w ≡ false → shadowed_row w ≡ w
row-real w h = pick-false (is_point w) (shadow_words w) w h

shadowed-at : (ws : List (List ℕ)) (i : ℕ) → get_or (map shadowed_row ws) i [] ≡ shadowed_row (get_or ws i [])
shadowed-at ws i =
    ap (get_or (map shadowed_row ws) i) (sym (row-real [] (not-whole [] refl))) ∙ get_or-map shadowed_row ws i []

module _ (at : Cursor) (ws : List (List ℕ)) (pos neg : ℕ) where
  abbrev w : List ℕ
  w = get_or ws at.place []

  by_row : point_at at (map shadowed_row ws) pos neg ≡ pick (leb (length ws) at.place) None (entry_in at (shadowed_row (get_or ws at.place [])) pos neg)
  unfolding point_at
  by_row = λ i. pick (leb (length-map ws shadowed_row i) at.place) None (entry_in at (shadowed-at ws at.place i) pos neg)

  -- where no i64 point lies it is as it was
  pub point-real : is_point (get_or ws at.place []) ≡ false → point_at at (map shadowed_row ws) pos neg ≡ point_at at ws pos neg
  unfolding point_at
  point-real h = by_row ∙ ap (λ (v : List ℕ). pick (leb (length ws) at.place) None (entry_in at v pos neg)) (row-real w h)

-- ---- A POINT OF I64 VALUES AND ITS SHADOW

either-found : (t : Bool) (e : WE.Entry) → shadow_found (pick t (Some e) None) ≡ pick t (Some (shadow_entry e)) None
unfolding pick
either-found true e = refl
either-found false e = refl

module _ (at : Cursor) (w : List ℕ) (pos neg : ℕ) (k : leb 2 (get_or w 0 0) ≡ true) where
  abbrev lies : Bool
  lies = within at (point_in w).figures (bounds_in w) pos neg

  abbrev own : WE.Entry
  own = record { point = point_in w; bounds = bounds_in w; next = behind at (point_in w).figures (bounds_in w) }

  entry_found : shadow_found (W.entry_in at w pos neg) ≡ pick (is_point w && lies) (Some (shadow_entry own)) None
  unfolding W.entry_in
  entry_found = either-found (is_point w && lies) own

  entry-shadow : is_point w ≡ true → entry_in at (shadow_words w) pos neg ≡ pick (is_point w && lies) (Some (shadow_entry own)) None
  unfolding entry_in F.point_in point_in bounds_in
  entry-shadow h =
      let v = shadow_words w in
      let b = F.bounds_in v in
      (λ i. pick ((shadow-is w h ∙ sym h) i && lies) (Some (record { point = F.point_in v; bounds = b; next = behind at (F.point_in v).figures b })) None)
      ∙ ap (λ (q : P.Point). pick (is_point w && lies) (Some (record { point = q; bounds = b; next = behind at q.figures b })) None) (shadow_in w)

  by-point : (t : Bool) → is_point w ≡ t → entry_in at (shadowed_row w) pos neg ≡ shadow_found (W.entry_in at w pos neg)
  unfolding entry_in
  by-point true h =
      ap (λ (v : List ℕ). entry_in at v pos neg) (pick_true (is_point w) (shadow_words w) w h) ∙ entry-shadow h ∙ sym entry_found
  by-point false h =
      ap (λ (v : List ℕ). entry_in at v pos neg) (row-real w h)
      ∙ pick-false (F.is_point w && within at (F.point_in w).figures (F.bounds_in w) pos neg) _ None
      (ap (λ (t : Bool). t && within at (F.point_in w).figures (F.bounds_in w) pos neg) (not-real w k))
      ∙ sym (entry_found ∙ pick-false (is_point w && lies) _ None (ap (λ (t : Bool). t && lies) h))

if-there : (t : Bool) (f : Std.Option WE.Entry) → pick t None (shadow_found f) ≡ shadow_found (pick t None f)
unfolding pick
if-there true f = refl
if-there false f = refl

module _ (at : Cursor) (ws : List (List ℕ)) (pos neg : ℕ) where
  -- at words of its kind: where an i64 point lies, and there only, its shadow lies in the list of shadows
  pub point-shadow : leb 2 (get_or (get_or ws at.place []) 0 0) ≡ true → point_at at (map shadowed_row ws) pos neg ≡ shadow_found (W.point_at at ws pos neg)
  unfolding W.point_at
  point-shadow k =
      let w = get_or ws at.place [] in
      by_row at ws pos neg
      ∙ ap (pick (leb (length ws) at.place) None) (by-point at w pos neg k (is_point w) refl)
      ∙ if-there (leb (length ws) at.place) (W.entry_in at w pos neg)

-- and it agrees, under size 160 and scale 10, where its shadow does: 8 where it does not, and 11 where it does. "An i64 point gives 11 .. right
-- after 8, in a card or sheet"
pub shadow-alone : (at : Cursor) (x : Source) (e : WE.Entry)
    → alone_number (W.stored_at at e x.bounds x.list) ≡ pick (agrees_alone (stored_at at (shadow_entry e) x.bounds x.list)) 11 8
shadow-alone at x e = sym (alone_law (W.stored_at at e x.bounds x.list) _ refl)

-- ---- the words at a cursor, as the code reads them

module _ (at : Cursor) (x : Source) where
  pub whole-real : W.is_whole at x.list.words ≡ false → whole_at at x ≡ whole_at at (shadowed x)
  unfolding W.is_whole
  whole-real k =
      ap (bounded (length x.bounds))
      (sym (point-real at x.list.words (length x.list.pos) (length x.list.neg) (not-whole (get_or x.list.words at.place []) k)))

  pub whole-shadow : W.is_whole at x.list.words ≡ true
      → bounded (length x.bounds) (shadow_found (W.point_at at x.list.words (length x.list.pos) (length x.list.neg))) ≡ whole_at at (shadowed x)
  unfolding W.is_whole
  whole-shadow k = ap (bounded (length x.bounds)) (sym (point-shadow at x.list.words (length x.list.pos) (length x.list.neg) k))

-- ---- without points of i64 values the list of shadows is the list

whole-alike : (at : Cursor) (x : Source) → is_point (get_or x.list.words at.place []) ≡ false → whole_at at (shadowed x) ≡ whole_at at x
whole-alike at x h =
    ap (bounded (length x.bounds)) (point-real at x.list.words (length x.list.pos) (length x.list.neg) h)

module _ (m : ℕ) (x : Source) (real : (i : ℕ) → i < m → is_point (get_or x.list.words i []) ≡ false) where
  by-found : (n : ℕ) → ((at : Cursor) → at.place + n ≤ m → from n at (shadowed x) ≡ from n at x) → (at : Cursor) → at.place + suc n ≤ m
      → row_there at x ≡ true → (f : Std.Option Entry) → whole_at at x ≡ f → from (suc n) at (shadowed x) ≡ from (suc n) at x
  by-found n again at l t None h =
      pointless n at (shadowed x) t (whole-alike at x (real at.place (omega arith)) ∙ h) ∙ sym (pointless n at x t h)
  by-found n again at l t (Some e) h =
      let p : e.next.place ≡ at.place + 1 = ap (λ (c : Cursor). c.place) (whole-next at x e h) in
      read-on n at (shadowed x) t e (whole-alike at x (real at.place (omega arith)) ∙ h)
      ∙ ap (Option.map (λ s. entry_here at x e ∷ s)) (again e.next (omega (arith, p)))
      ∙ sym (read-on n at x t e h)

  read_alike : (n : ℕ) (at : Cursor) → at.place + n ≤ m → from n at (shadowed x) ≡ from n at x
  read_alike zero at l = refl
  read_alike (suc n) at l =
      ⊎_elim (λ t. by-found n (read_alike n) at l t (whole_at at x) refl) (λ t. rowless n at (shadowed x) t ∙ sym (rowless n at x t)) (flag (row_there at x))

module _ (n : ℕ) (x : Source) (r : no_whole n x ≡ true) where
  none-at : (i : ℕ) → i < n → is_point (get_or x.list.words i []) ≡ false
  unfolding no_whole
  none-at i l = not-true _ (allb-at (λ j. not (is_point (get_or x.list.words j []))) n r i l)

  pub listed-reals : listed n (shadowed x) ≡ listed n x
  listed-reals = read_alike n x none-at n origin (omega arith)

  -- so it is judged alike: by the points and the sets
  same-verdict : (y : Option (List S.Entry)) → verdict origin 0 (shadowed x) y ≡ verdict origin 0 x y
  same-verdict none = refl
  same-verdict (some []) = refl
  same-verdict (some (e ∷ es)) = refl

  pub judged-reals : Header → judged n (shadowed x) ≡ judged n x
  judged-reals h =
      ⊎_elim
      (λ l. whole-verdict h n (shadowed x) l ∙ same-verdict (listed n (shadowed x)) ∙ ap (verdict origin 0 x) listed-reals ∙ sym (whole-verdict h n x l))
      (λ l. sym (judged-over n (shadowed x) l) ∙ judged-over n x l)
      (le_or-lt n 64)

-- ---- what can be taken from the list without shadows has no point of i64 values

module _ (x : Source) where
  real-from : (n : ℕ) (at : Cursor) (es : List S.Entry) → from n at x ≡ some es → (i : ℕ) → at.place ≤ i → i < at.place + n
      → leb 2 (get_or (get_or x.list.words i []) 0 0) ≡ false
  real-from zero at es h i a b = absurd (omega arith)
  real-from (suc n) at es h i a b =
      let c = cut n at x es h in
      let p : c.e.next.place ≡ at.place + 1 = ap (λ (d : Cursor). d.place) (whole-next at x c.e c.whole) in
      let real : leb 2 (get_or (get_or x.list.words at.place []) 0 0) ≡ false =
      kind-real (get_or x.list.words at.place []) (whole-told at x c.e c.whole).is in
      ⊎_elim (λ d. subst (λ (j : ℕ). leb 2 (get_or (get_or x.list.words j []) 0 0) ≡ false) d real)
      (λ l. real-from n c.e.next c.rest c.read i (omega (arith, p)) (omega (arith, p)))
      (eq-or-lt_of_le a)

module _ (n : ℕ) (x : Source) where
  no_kinds : (es : List S.Entry) → listed n x ≡ some es → no_kind n x.list.words ≡ true
  unfolding no_kind
  no_kinds es h = allb-yes _ n (λ i l. ap not (real-from x n origin es h i (omega arith) (omega arith)))

  kind-says : no_kind n x.list.words ≡ true → no_whole n x ≡ true
  unfolding no_kind no_whole
  kind-says h =
      let ws = x.list.words in
      allb-yes _ n (λ i l. ap not (not-whole (get_or ws i []) (not-true _ (allb-at (λ j. not (leb 2 (get_or (get_or ws j []) 0 0))) n h i l))))

  pub all-real : (es : List S.Entry) → listed n x ≡ some es → no_whole n x ≡ true
  all-real es h = kind-says (no_kinds es h)

  -- judged fine: then the kinds tell
  module _ (h : Header) (c : ℕ) (fine : judged n (shadowed x) ≡ Some c) where
    pub kinds-real : no_kind n x.list.words ≡ true → judged n x ≡ Some c
    kinds-real k = sym (judged-reals n x (kind-says k) h) ∙ fine

    pub kinds-whole : no_kind n x.list.words ≡ false → no_whole n x ≡ false
    kinds-whole k = go (no_whole n x) refl
      where
        go : (t : Bool) → no_whole n x ≡ t → t ≡ false
        go true e =
            let s = judged-fine h n x c (sym (judged-reals n x e h) ∙ fine) in
            absurd (not-both (no_kind n x.list.words) (no_kinds s.es s.read) k)
        go false e = refl

-- the loop over the kinds
module _ (ws : List (List ℕ)) where
  abbrev lesser : ℕ → Bool
  lesser i = not (leb 2 (get_or (get_or ws i []) 0 0))

  pub kinds-start : no_kind 0 ws ≡ true
  unfolding no_kind
  kinds-start = allb-none lesser

  module _ (i : ℕ) where
    pub kinds-next : no_kind i ws ≡ true → W.is_whole (record { place = i; pos = 0; neg = 0 }) ws ≡ false → no_kind (i + 1) ws ≡ true
    unfolding no_kind W.is_whole
    kinds-next a h = allb-more lesser i a (ap not h)

    pub kinds-stop : (n : ℕ) → i < n → W.is_whole (record { place = i; pos = 0; neg = 0 }) ws ≡ true → false ≡ no_kind n ws
    unfolding no_kind W.is_whole
    kinds-stop n l h = sym (allb-no lesser n i l (ap not h))

    pub kinds-end : (n : ℕ) → no_kind i ws ≡ true → i ≤ n → n ≤ i → true ≡ no_kind n ws
    kinds-end n a l m = let e : i ≡ n = omega arith in sym (subst (λ (j : ℕ). no_kind j ws ≡ true) e a)

-- ---- WITHOUT POINTS OF I64 VALUES the call is as it was before request L6

module _ (h : Header) (n : ℕ) (x : Source) (out : List ℕ) where
  abbrev pub of : Bool → Option (List S.Entry) → Outcome
  of t y = elim y [
    | none ↦ ends (refusal 8) out
    | some es ↦
        let s : Sheet = record { header = h; points = es } in
        pick t (writing_of s out) (ends (refusal (pick (writable s) 11 8)) out)
  ]

  of-reals : (y : Option (List S.Entry)) → of true y ≡ elim y [ none ↦ ends (refusal 8) out | some es ↦ writing_of (record { header = h; points = es }) out ]
  unfolding pick
  of-reals none = refl
  of-reals (some es) = refl

  pub writing-reals : no_whole n x ≡ true
      → writing h n x out ≡ elim (listed n x) [ none ↦ ends (refusal 8) out | some es ↦ writing_of (record { header = h; points = es }) out ]
  unfolding writing
  writing-reals r = ap₂ of r (listed-reals n x r) ∙ of-reals (listed n x)
