-- One slot: its series agrees exactly where the code's tests pass; then its point is as long as its head says. Assumes nothing.
use Prim.Native.Nat.{ℕ, ◌+◌, ◌≤◌}
use mathlib.Core.Path.{◌≡◌, sym, ap, subst, ◌∙◌}
use mathlib.Core.Bool.{Bool, true, false, not, ◌&&◌, ◌||◌}
use mathlib.Core.List.{List, []}
use native.Mathlib.Omega.{arith}
use lib.ListN.{length, get_or}
use lib.Ieee.{Float, nan}
use lib.Ieee.Scale.{finite}
use Rattle.laws.specs.Pick.{pick}
use Rattle.laws.proofs.Bools.{pick_true, pick-false}
use Rattle.rows.specs.Parts.{part_at}
use Rattle.rows.proofs.Parts.{part_length}
use Rattle.exponential.specs.declared.Head.{Head}
use Rattle.exponential.specs.Series as S
use Rattle.tally.specs.Kind.{Kind}
use Rattle.kinds.specs.Histograms.{histograms}
use Rattle.exponential_slots.specs.Cells.{Cells, Room, counts_in, narrow, head_in, head_at}
use Rattle.exponential_slots.specs.Meaning.{settings, series_at}
use Rattle.exponential_slots.proofs.Cases.{head-held, head-fresh}
use Rattle.value_map.specs.Store.{Store}
use Rattle.value_map.specs.Exponential.{unset}
use Rattle.listing.specs.Inner as ListedInner
use Rattle.listing.specs.Listed.{Output, behind, put_at}
use Rattle.listing.specs.Inner.{left}
use Rattle.listing.specs.declared.Cursor.{Cursor}
use Rattle.collecting.specs.Lister.{Lister}
use Rattle.collecting.specs.Slots.{unsound, one_more, surveyed_at, Free, laid_at, behind_at, put_slot}
use Rattle.collecting.specs.declared.Survey.{Survey}
use Rattle.collecting.specs.Read.{span_of}
use Rattle.point.specs.Handing.{exponential_point}
use Rattle.point.specs.declared.Point.{Point}
use Rattle.exponential_collection.specs.Points.{exponential_lister}
use Rattle.exponential_collection.proofs.Counts as Counts
use Rattle.exponential_collection.proofs.Counts.{without, Laid, holds}

-- ---- any kind's slot

-- a series is asked for only where the slot holds one
pub sound-held : (updated agrees : Bool) → updated ≡ true → agrees ≡ (not updated || agrees)
sound-held updated agrees u = sym (ap (λ (b : Bool). not b || agrees) u)

pub sound-fresh : (updated agrees : Bool) → updated ≡ false → true ≡ (not updated || agrees)
sound-fresh updated agrees u = sym (ap (λ (b : Bool). not b || agrees) u)

-- a survey with a point more, by whether the slot holds a series
pub counted-held : (s : Survey) (updated : Bool) (p n : ℕ) → updated ≡ true → one_more s p n ≡ one_more s (pick updated p 0) (pick updated n 0)
counted-held s updated p n u = λ i. one_more s (sym (pick_true updated p 0 u) i) (sym (pick_true updated n 0 u) i)

pub counted-fresh : (s : Survey) (updated : Bool) (p n : ℕ) → updated ≡ false
    → record { sound = true; points = s.points + 1; pos = s.pos; neg = s.neg } ≡ one_more s (pick updated p 0) (pick updated n 0)
counted-fresh s updated p n u =
    let a : s.pos ≡ s.pos + pick updated p 0 = omega (arith, pick-false updated p 0 u) in
    let b : s.neg ≡ s.neg + pick updated n 0 = omega (arith, pick-false updated n 0 u) in
    λ i. record { sound = true; points = s.points + 1; pos = a i; neg = b i }

module _ {K : Kind} {S : Store K} (L : Lister S) (w : S.Switches) (updated due : Bool) (c : S.Cells) (x : ℕ) where
  abbrev agree : Bool
  agree = not updated || K.agrees (S.settings w) (S.at c x)

  -- the slot in a survey
  module _ (s : Survey) where
    pub survey_8 : agree ≡ false → unsound ≡ surveyed_at L w updated due c s x
    unfolding surveyed_at
    survey_8 h = sym (pick-false agree _ unsound h)

    pub survey-same : agree ≡ true → due ≡ false → s ≡ surveyed_at L w updated due c s x
    unfolding surveyed_at
    survey-same a d = sym (pick_true agree _ unsound a ∙ pick-false due _ s d)

    pub survey-more : agree ≡ true → due ≡ true → (p n : ℕ) → p ≡ length (L.pos c x updated) → n ≡ length (L.neg c x updated)
        → one_more s p n ≡ surveyed_at L w updated due c s x
    unfolding surveyed_at
    survey-more a d p n e g = (λ i. one_more s (e i) (g i)) ∙ sym (pick_true agree _ unsound a ∙ pick_true due _ s d)

  -- and in the output
  pub put-not : (row : List ℕ) (at : Cursor) (o : Output) → due ≡ false → left at o ≡ put_slot L w updated due c x row at o
  unfolding put_slot
  put-not row at o d = sym (pick-false due _ (left at o) d)

  pub put-due : (row : List ℕ) (at : Cursor) (o : Output) → due ≡ true → (p n : ℕ) → length (L.pos c x updated) ≡ p → length (L.neg c x updated) ≡ n
      → left (behind_at at p n) (laid_at at row (L.words w c x updated) (L.pos c x updated) (L.neg c x updated) o) ≡ put_slot L w updated due c x row at o
  unfolding put_slot
  put-due row at o d p n e g =
      (λ i. left (behind_at at (sym e i) (sym g i)) (laid_at at row (L.words w c x updated) (L.pos c x updated) (L.neg c x updated) o))
      ∙ sym (pick_true due _ (left at o) d)

-- ---- one of this kind

module _ (size top : ℕ) (set : unset size top ≡ 0) (c : Cells) (x : ℕ) (r : Room size c x) where
  abbrev f : List ℕ
  f = get_or c.figures x []

  abbrev m : List Float
  m = get_or c.extremes x []

  abbrev xs : List ℕ
  xs = part_at size c.pos x

  abbrev ys : List ℕ
  ys = part_at size c.neg x

  -- whether the slot's series agrees: the switches have no part in it
  abbrev pub agrees_at : Bool
  agrees_at = histograms.agrees (settings size top true true) (series_at size c x)

  pub long-pos : length xs ≡ size
  long-pos = part_length size c.pos x r.pos

  pub long-neg : length ys ≡ size
  long-neg = part_length size c.neg x r.neg

  abbrev rows_hold : Bool
  rows_hold = holds size top set f xs ys long-pos long-neg

  abbrev finites : Bool
  finites = finite (get_or m 0 nan) && finite (get_or m 1 nan)

  -- ---- the code's tests, in their order

  pub unread : narrow f ≡ false → false ≡ agrees_at
  unread h = ap (λ (b : Bool). b && finites) (Counts.unread size top set f xs ys long-pos long-neg h)

  module _ (n : narrow f ≡ true) where
    tested : S.agrees size top (counts_in f) xs ys && finites ≡ agrees_at
    tested = ap (λ (b : Bool). b && finites) (Counts.by-counts size top set f xs ys long-pos long-neg n)

    pub uncounted : S.agrees size top (counts_in f) xs ys ≡ false → false ≡ agrees_at
    uncounted h = ap (λ (b : Bool). b && finites) (sym h) ∙ tested

    module _ (t : S.agrees size top (counts_in f) xs ys ≡ true) where
      extremes-tested : finites ≡ agrees_at
      extremes-tested = ap (λ (b : Bool). b && finites) (sym t) ∙ tested

      pub low_lost : finite (get_or m 0 nan) ≡ false → false ≡ agrees_at
      low_lost h = ap (λ (b : Bool). b && finite (get_or m 1 nan)) (sym h) ∙ extremes-tested

      pub by_high : finite (get_or m 0 nan) ≡ true → finite (get_or m 1 nan) ≡ agrees_at
      by_high h = ap (λ (b : Bool). b && finite (get_or m 1 nan)) (sym h) ∙ extremes-tested

  -- ---- a slot whose series agrees, if it holds one

  module _ (updated : Bool) (a : (not updated || agrees_at) ≡ true) where
    abbrev h : Head
    h = head_at top c x updated

    pub laid : Laid size top f xs ys updated (head_at top c x updated).counts
    unfolding head_in
    laid =
        Counts.laid size top set f xs ys long-pos long-neg updated h.counts (without updated rows_hold finites a)
        (λ u. ap (λ (h : Head). h.counts) (head-held top updated f m u)) (λ u. ap (λ (h : Head). h.counts) (head-fresh top updated f m u))

    pub pos-length : length ((exponential_lister size top).pos c x updated) ≡ (head_at top c x updated).counts.pos.len
    pos-length = Counts.pos-length size top set f xs ys long-pos long-neg updated h.counts laid

    pub neg-length : length ((exponential_lister size top).neg c x updated) ≡ (head_at top c x updated).counts.neg.len
    neg-length = Counts.neg-length size top set f xs ys long-pos long-neg updated h.counts laid

    -- in a survey: what is counted of it is at most max_size
    pub few : (pick updated (get_or f 4 0) 0 ≤ 160) × (pick updated (get_or f 6 0) 0 ≤ 160)
    few = Counts.few size top set f xs ys long-pos long-neg updated h.counts laid

    pub words-few : updated ≡ true → (get_or f 4 0 ≤ 160) × (get_or f 6 0 ≤ 160)
    words-few u = Counts.words-few size top set f xs ys long-pos long-neg updated h.counts laid u

    pub survey-due : (due : Bool) (s : Survey) → due ≡ true → one_more s (pick updated (get_or f 4 0) 0) (pick updated (get_or f 6 0) 0)
        ≡ surveyed_at (exponential_lister size top) (true, true) updated due c s x
    survey-due due s d =
        survey-more (exponential_lister size top) (true, true) updated due c x s a d _ _ (laid.pos_len ∙ sym pos-length) (laid.neg_len ∙ sym neg-length)

    -- its point in the output
    module _ (w : Bool × Bool) (p : Point) (e : p ≡ exponential_point (head_at top c x updated) w.0 w.1) (row : List ℕ) (at : Cursor) (o : Output) where
      pub put-room : Free (exponential_lister size top) w updated c x at o → ListedInner.Room at p.figures (span_of []) xs ys o
      put-room g =
          subst (λ (q : Point). ListedInner.Room at q.figures (span_of []) xs ys o) (sym e)
          (Counts.put-room size top set f xs ys long-pos long-neg updated h.counts laid at o g)

      pub put_on : (due : Bool) → due ≡ true → left (behind at p.figures (span_of [])) (put_at at row p (span_of []) xs ys o)
          ≡ put_slot (exponential_lister size top) w updated due c x row at o
      unfolding put_at laid_at
      put_on due d =
          ap (λ (q : Point). left (behind at q.figures (span_of [])) (put_at at row q (span_of []) xs ys o)) e
          ∙ put-due (exponential_lister size top) w updated due c x row at o d _ _ pos-length neg-length
