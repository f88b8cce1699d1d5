-- One slot: its series agrees exactly where the code's tests pass; its point has as many counts as there are buckets. Assumes nothing.
use Prim.Native.Nat.{ℕ, ◌+◌, ◌*◌, ◌≤◌}
use mathlib.Core.Path.{◌≡◌, refl, sym, ap, subst, ◌∙◌}
use mathlib.Core.Bool.{Bool, true, false, not, ◌&&◌, ◌||◌}
use mathlib.Core.List.{List, [], ◌∷◌}
use native.Mathlib.Omega.{arith}
use lib.Dec.{leb}
use borrow.Author.Tests.{le-leb}
use lib.ListN.{length, replicate, take, length-replicate}
use lib.Seq.{take_all}
use lib.Ieee.{Float}
use lib.Ieee.Scale.{finite}
use Rattle.laws.specs.Pick.{pick}
use Rattle.laws.specs.Said.{Said, refusal, success}
use Rattle.laws.proofs.Bools.{pick_true, pick-false}
use Rattle.rows.specs.Parts.{part_at}
use Rattle.rows.proofs.Parts.{part_length}
use Rattle.laws.proofs.Answers.{success?, value_in, not-refused}
use Rattle.laws.specs.Over.{over}
use Rattle.laws.proofs.Over.{take-over, length_over}
use Rattle.points.specs.Explicit.{bucket_count, buckets_agree}
use Rattle.kinds.specs.Histograms.{histograms}
use Rattle.explicit.specs.declared.Head.{Head}
use Rattle.explicit.specs.Series.{Outcome, outcome, buckets_in, fresh_head, freshening}
use Rattle.explicit_slots.specs.Cells.{Cells, head_in, series_at}
use Rattle.point.specs.Handing.{explicit_point}
use Rattle.point.specs.declared.Figures.{Figures}
use Rattle.point.specs.declared.Figures.TheVariants.{Explicit}
use Rattle.tally.specs.Kind.{Kind}
use Rattle.value_map.specs.Store.{Store}
use Rattle.value_map.specs.Explicit.{explicit_store}
use Rattle.listing.specs.Listed.{Output, buckets_of, pos_len, neg_len, behind}
use Rattle.listing.specs.Inner.{Put, left}
use Rattle.listing.specs.Inner as ListedInner
use Rattle.listing.specs.Words.{words_of}
use Rattle.listing.specs.declared.Cursor.{Cursor}
use Rattle.collecting.specs.Lister.{Lister}
use Rattle.collecting.specs.Slots.{unsound, one_more, Place, surveyed_at, laid_at, behind_at, put_slot}
use Rattle.collecting.specs.declared.Survey.{Survey}
use Rattle.collecting.specs.Read.{span_of}
use Rattle.explicit_collection.specs.Ready.{row_put, point_put}

-- ---- agreement

module _ (bounds : List Float) (c : Cells) (x : ℕ) where
  -- whether the slot's series agrees: the switches have no part in it
  abbrev pub agrees_at : Bool
  agrees_at = histograms.agrees ((explicit_store bounds).settings (true, true)) (series_at bounds c x)

  module _ (n : ℕ) (is : n ≡ bucket_count bounds) (h : Head) (head : h ≡ head_in c x) (b : Bool) (e : b ≡ buckets_agree bounds (buckets_in bounds h.count (part_at n c.counts x))) where
    -- as the code tests it
    tested : b && (finite h.min && finite h.max) ≡ agrees_at
    tested =
        ap (λ (t : Bool). t && (finite h.min && finite h.max)) e
        ∙ (λ j. buckets_agree bounds (buckets_in bounds (head j).count (part_at (is j) c.counts x)) && (finite (head j).min && finite (head j).max))

    pub uncounted : b ≡ false → false ≡ agrees_at
    uncounted p = ap (λ (t : Bool). t && (finite h.min && finite h.max)) (sym p) ∙ tested

    module _ (p : b ≡ true) where
      extremes-tested : finite h.min && finite h.max ≡ agrees_at
      extremes-tested = ap (λ (t : Bool). t && (finite h.min && finite h.max)) (sym p) ∙ tested

      pub low_lost : finite h.min ≡ false → false ≡ agrees_at
      low_lost q = ap (λ (t : Bool). t && finite h.max) (sym q) ∙ extremes-tested

      pub by_high : finite h.min ≡ true → finite h.max ≡ agrees_at
      by_high q = ap (λ (t : Bool). t && finite h.max) (sym q) ∙ extremes-tested

-- ---- lengths

-- the counts in a slot of a store, where its entry was updated, else as many zeros
abbrev pub counts_in : List Float → List ℕ → ℕ → Bool → List ℕ
counts_in bounds counts x u = pick u (part_at (bucket_count bounds) counts x) (replicate (bucket_count bounds) 0)

module _ (bounds : List Float) (counts : List ℕ) (x : ℕ) (r : x * bucket_count bounds + bucket_count bounds ≤ length counts) where
  pub counts-long : (u : Bool) → length (counts_in bounds counts x u) ≡ bucket_count bounds
  unfolding pick
  counts-long true = part_length (bucket_count bounds) counts x r
  counts-long false = length-replicate {A = ℕ} (bucket_count bounds) 0

  -- room for its point is room for as many counts as there are buckets
  pub place_of : (u : Bool) (at : Cursor) (o : Output) → Place at o (length (counts_in bounds counts x u)) 0 → Place at o (bucket_count bounds) 0
  place_of u at o p = subst (λ (n : ℕ). Place at o n 0) (counts-long u) p

-- the buckets of n bounds, as a list counts them
pub buckets-are : (bounds : List Float) → buckets_of (length bounds) ≡ bucket_count bounds
buckets-are [] = refl
buckets-are (b ∷ bounds) = refl

-- ---- the survey, over any number: of any store whose points have all their counts in one store

module _ {K : Kind} {S : Store K} (L : Lister S) (w : S.Switches) (u due : Bool) (c : S.Cells) (s : Survey) (x : ℕ)
    (b : Bool) (e : b ≡ (not u || K.agrees (S.settings w) (S.at c x))) where
  abbrev pub after : Survey
  after = surveyed_at L w u due c s x

  pub survey-none : b ≡ false → unsound ≡ after
  unfolding surveyed_at
  survey-none p = sym (pick-false (not u || K.agrees (S.settings w) (S.at c x)) _ unsound (sym e ∙ p))

  module _ (p : b ≡ true) where
    found : after ≡ pick due (one_more s (length (L.pos c x u)) (length (L.neg c x u))) s
    unfolding surveyed_at
    found = pick_true (not u || K.agrees (S.settings w) (S.at c x)) _ unsound (sym e ∙ p)

    pub survey-idle : due ≡ false → s ≡ after
    survey-idle d = sym (found ∙ pick-false due _ s d)

    pub survey-due : due ≡ true → (n : ℕ) → n ≡ length (L.pos c x u) → L.neg c x u ≡ [] → one_more s n 0 ≡ after
    survey-due d n i k = (λ j. one_more s (i j) (length (sym k j))) ∙ sym (found ∙ pick_true due _ s d)

-- ---- the output, over any number: of a point with these figures and words

module _ (bounds : List Float) (at : Cursor) (f : Figures) (k : ℕ) (e : f ≡ Explicit k) (xs : List ℕ) (o : Output) where
  pub room_of : bucket_count bounds ≤ length xs → Place at o (bucket_count bounds) 0 → ListedInner.Room at f (span_of bounds) xs xs o
  room_of l p =
      let b = buckets-are bounds in
      subst (λ (f : Figures). ListedInner.Room at f (span_of bounds) xs xs o) (sym e)
      (record {
        sets = p.sets;
        words = p.words;
        pos = omega (arith, p.pos, b);
        neg = omega (arith, p.neg);
        lent = omega (arith, l, b);
        lent_neg = omega arith;
      })

  -- a point put with its span is its words put with its counts
  pub point-laid : (row ws : List ℕ)
      → left (behind at f (span_of bounds)) (laid_at at row ws (take (pos_len f (span_of bounds)) xs) (take (neg_len f) xs) o) ≡ row_put bounds ws at row xs o
  point-laid row ws =
      (λ j. left (behind at (e j) (span_of bounds)) (laid_at at row ws (take (pos_len (e j) (span_of bounds)) xs) (take (neg_len (e j)) xs) o))
      ∙ (λ j. left (behind_at at (buckets-are bounds j) 0) (laid_at at row ws (take (buckets-are bounds j) xs) [] o))

-- what is put at a slot
module _ {K : Kind} {S : Store K} (L : Lister S) (w : S.Switches) (u due : Bool) (c : S.Cells) (x : ℕ) (row : List ℕ) (at : Cursor) (o : Output) where
  abbrev pub putting : Put
  putting = put_slot L w u due c x row at o

  pub put-none : due ≡ false → left at o ≡ putting
  unfolding put_slot
  put-none d = sym (pick-false due _ (left at o) d)

  -- its words, with the counts that its slot has in a store
  module _ (bounds : List Float) (counts : List ℕ) (r : x * bucket_count bounds + bucket_count bounds ≤ length counts)
      (pos : L.pos c x u ≡ counts_in bounds counts x u) (neg : L.neg c x u ≡ []) (d : due ≡ true) (ws : List ℕ) (e : ws ≡ L.words w c x u) where
    abbrev n : ℕ
    n = bucket_count bounds

    put_some : (xs : List ℕ) → length xs ≡ n → counts_in bounds counts x u ≡ xs → row_put bounds ws at row xs o ≡ putting
    unfolding put_slot
    put_some xs l i =
        (λ j. left (behind_at at n 0) (laid_at at row (e j) ((take_all n xs (omega (arith, l)) ∙ sym (pos ∙ i)) j) (sym neg j) o))
        ∙ (λ j. left (behind_at at ((sym l ∙ ap length (sym (pos ∙ i))) j) (length (sym neg j))) (laid_at at row (L.words w c x u) (L.pos c x u) (L.neg c x u) o))
        ∙ sym (pick_true due _ (left at o) d)

    pub put-held : u ≡ true → (m : ℕ) → m ≡ n → row_put bounds ws at row (part_at m counts x) o ≡ putting
    put-held t m i =
        ap (λ (m : ℕ). row_put bounds ws at row (part_at m counts x) o) i
        ∙ put_some (part_at n counts x) (part_length n counts x r) (pick_true u _ (replicate n 0) t)

    pub put_first : u ≡ false → row_put bounds ws at row (replicate (bucket_count bounds) 0) o ≡ putting
    put_first t = put_some (replicate n 0) (length-replicate {A = ℕ} n 0) (pick-false u (part_at n counts x) _ t)

-- a fresh series in a row of its own: zeros
module _ (bounds : List Float) (xs : List ℕ) (long : bucket_count bounds ≤ length xs) (a : Said Head) (ys : List ℕ) (e : outcome a ys ≡ freshening bounds xs) where
  abbrev zeros : List ℕ
  zeros = replicate (bucket_count bounds) 0

  made : outcome a ys ≡ outcome (success fresh_head) (over (replicate (bucket_count bounds) 0) xs)
  unfolding freshening
  made = e ∙ pick_true (leb (bucket_count bounds) (length xs)) _ _ (le-leb (bucket_count bounds) (length xs) long)

  pub fresh-never : (n : ℕ) → a ≡ refusal n → ⊥
  fresh-never n r = not-refused a n (ap (λ (o : Outcome). success? o.answer) made) r

  fresh-row : ys ≡ over zeros xs
  fresh-row = ap (λ (o : Outcome). o.counts) made

  pub fresh-long : bucket_count bounds ≤ length ys
  fresh-long = omega (arith, long, ap length fresh-row, length_over zeros xs (omega (arith, long, length-replicate {A = ℕ} (bucket_count bounds) 0)))

  fresh-counts : take (bucket_count bounds) ys ≡ take (bucket_count bounds) zeros
  fresh-counts =
      let n = length-replicate {A = ℕ} (bucket_count bounds) 0 in
      ap (take (bucket_count bounds)) fresh-row
      ∙ ap (λ (k : ℕ). take k (over zeros xs)) (sym n)
      ∙ take-over zeros xs
      ∙ sym (take_all (bucket_count bounds) zeros (omega (arith, n)))

  pub fresh-put : (h : Head) → a ≡ success h → (show sums : Bool) (at : Cursor) (row : List ℕ) (o : Output)
      → point_put bounds (explicit_point h show sums) at row ys o ≡ point_put bounds (explicit_point fresh_head show sums) at row (replicate (bucket_count bounds) 0) o
  fresh-put h r show sums at row o =
      let p : h ≡ fresh_head = sym (ap (value_in fresh_head) r) ∙ ap (λ (o : Outcome). value_in fresh_head o.answer) made in
      λ j. left (behind_at at (bucket_count bounds) 0) (laid_at at row (words_of (explicit_point (p j) show sums) (span_of bounds)) (fresh-counts j) [] o)
