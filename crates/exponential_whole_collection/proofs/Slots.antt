-- One slot: its series agrees exactly where the code's tests pass; then its point is as long as its head says. By the laws of a slot's words and
-- rows, which are those over f64. Assumes nothing.
use Prim.Native.Nat.{ℕ, ◌≤◌}
use mathlib.Core.Path.{◌≡◌, refl, sym, ap, subst, ◌∙◌}
use mathlib.Core.Bool.{Bool, true, false, not, ◌&&◌, ◌||◌, and-true}
use mathlib.Core.List.{List, []}
use lib.IntN.{ℤ}
use lib.ListN.{length, get_or}
use Rattle.laws.specs.Pick.{pick}
use Rattle.rows.specs.Parts.{part_at}
use Rattle.rows.proofs.Parts.{part_length}
use Rattle.exponential.specs.Series as S
use Rattle.exponential_wholes.specs.declared.Head.{Head}
use Rattle.kinds.specs.Wholes.{wholes}
use Rattle.exponential_slots.specs.Cells.{counts_in, narrow}
use Rattle.exponential_whole_slots.specs.Cells.{Cells, Room, head_at, settings, series_at}
use Rattle.exponential_whole_slots.proofs.Cases.{head-held, head-fresh}
use Rattle.value_map.specs.Calls.{Held}
use Rattle.value_map.specs.Exponential.{unset}
use Rattle.listing.specs.Inner as ListedInner
use Rattle.listing.specs.Listed.{Output, behind}
use Rattle.listing.specs.Inner.{left}
use Rattle.listing.specs.declared.Cursor.{Cursor}
use Rattle.collecting.specs.Collected.{roomy, uncollected}
use Rattle.collecting.specs.Slots.{one_more, surveyed_at, Free, laid_at, put_slot}
use Rattle.collecting.specs.declared.Survey.{Survey}
use Rattle.collecting.specs.Read.{span_of}
use Rattle.exponential_collection.proofs.Counts as Counts
use Rattle.exponential_collection.proofs.Counts.{without, Laid, holds}
use Rattle.exponential_collection.proofs.Slots.{survey-more, put-due}
use Rattle.whole_point.specs.Handing.{exponential_point}
use Rattle.whole_point.specs.declared.Point.{Point}
use Rattle.whole_listing.specs.Listed.{put_at}
use Rattle.exponential_whole_collection.specs.Points.{exponential_whole_lister}

-- the sum's switch has no part in what refuses a collection
pub sums_apart : (size top : ℕ) (sums show cumulative : Bool) (limit : ℕ) (h : Held Cells) (o : Output)
    → uncollected (exponential_whole_lister size top true) show cumulative limit h o ≡ uncollected (exponential_whole_lister size top sums) show cumulative limit h o
unfolding uncollected roomy
sums_apart size top sums show cumulative limit h o = refl

module _ (size top : ℕ) (set : unset size top ≡ 0) (c : Cells) (x : ℕ) (r : Room size c x) where
  abbrev f : List ℕ
  f = get_or c.figures x []

  abbrev m : List ℤ
  m = get_or c.extremes x []

  abbrev xs : List ℕ
  xs = part_at size c.pos x

  abbrev ys : List ℕ
  ys = part_at size c.neg x

  -- whether the slot's series agrees: the switches have no part in it
  abbrev pub agrees_at : Bool
  agrees_at = wholes.agrees (settings size top true true) (series_at size c x)

  pub long-pos : length xs ≡ size
  long-pos = part_length size c.pos x r.pos

  pub long-neg : length ys ≡ size
  long-neg = part_length size c.neg x r.neg

  abbrev rows_hold : Bool
  rows_hold = holds size top set f xs ys long-pos long-neg

  rows_are : rows_hold ≡ agrees_at
  rows_are = sym (and-true rows_hold)

  -- ---- the code's tests, in their order

  pub unread : narrow f ≡ false → false ≡ agrees_at
  unread h = Counts.unread size top set f xs ys long-pos long-neg h ∙ rows_are

  pub by-counts : narrow f ≡ true → S.agrees size top (counts_in f) xs ys ≡ agrees_at
  by-counts n = Counts.by-counts size top set f xs ys long-pos long-neg n ∙ rows_are

  -- ---- a slot whose series agrees, if it holds one

  module _ (updated : Bool) (a : (not updated || agrees_at) ≡ true) where
    abbrev h : Head
    h = head_at top c x updated

    pub laid : Laid size top f xs ys updated (head_at top c x updated).counts
    laid =
        Counts.laid size top set f xs ys long-pos long-neg updated h.counts (without updated rows_hold (true && true) a)
        (λ u. ap (λ (h : Head). h.counts) (head-held top updated f m u)) (λ u. ap (λ (h : Head). h.counts) (head-fresh top updated f m u))

    module _ (sums : Bool) where
      pub pos-length : length ((exponential_whole_lister size top sums).pos c x updated) ≡ (head_at top c x updated).counts.pos.len
      pos-length = Counts.pos-length size top set f xs ys long-pos long-neg updated h.counts laid

      pub neg-length : length ((exponential_whole_lister size top sums).neg c x updated) ≡ (head_at top c x updated).counts.neg.len
      neg-length = Counts.neg-length size top set f xs ys long-pos long-neg updated h.counts laid

    -- in a survey: what is counted of it is at most max_size
    pub few : (pick updated (get_or f 4 0) 0 ≤ 160) × (pick updated (get_or f 6 0) 0 ≤ 160)
    few = Counts.few size top set f xs ys long-pos long-neg updated h.counts laid

    pub words-few : updated ≡ true → (get_or f 4 0 ≤ 160) × (get_or f 6 0 ≤ 160)
    words-few u = Counts.words-few size top set f xs ys long-pos long-neg updated h.counts laid u

    pub survey-due : (due : Bool) (s : Survey) → due ≡ true → one_more s (pick updated (get_or f 4 0) 0) (pick updated (get_or f 6 0) 0)
        ≡ surveyed_at (exponential_whole_lister size top true) true updated due c s x
    survey-due due s d =
        survey-more (exponential_whole_lister size top true) true updated due c x s a d _ _ (laid.pos_len ∙ sym (pos-length true)) (laid.neg_len ∙ sym (neg-length true))

    -- its point in the output
    module _ (show sums : Bool) (p : Point) (e : p ≡ exponential_point (head_at top c x updated) show sums) (row : List ℕ) (at : Cursor) (o : Output) where
      pub put-room : Free (exponential_whole_lister size top sums) show updated c x at o → ListedInner.Room at p.figures (span_of []) xs ys o
      put-room g =
          subst (λ (q : Point). ListedInner.Room at q.figures (span_of []) xs ys o) (sym e)
          (Counts.put-room size top set f xs ys long-pos long-neg updated h.counts laid at o g)

      pub put_on : (due : Bool) → due ≡ true → left (behind at p.figures (span_of [])) (put_at at row p (span_of []) xs ys o)
          ≡ put_slot (exponential_whole_lister size top sums) show updated due c x row at o
      unfolding put_at laid_at
      put_on due d =
          ap (λ (q : Point). left (behind at q.figures (span_of [])) (put_at at row q (span_of []) xs ys o)) e
          ∙ put-due (exponential_whole_lister size top sums) show updated due c x row at o d _ _ (pos-length sums) (neg-length sums)
