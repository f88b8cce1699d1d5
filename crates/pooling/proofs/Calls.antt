-- The call, case by case. Assumes nothing.
use Prim.Native.Nat.{ℕ, ◌≤◌, ◌<◌}
use mathlib.Core.Path.{◌≡◌, refl, sym, ap, ap₂, ◌∙◌}
use mathlib.Core.Bool.{true, false}
use mathlib.Core.List.{List, []}
use borrow.Author.Tests.{le-leb, lt-leb}
use lib.Dec.{leb}
use lib.ListN.{length, get_or}
use Rattle.laws.specs.Said.{refusal}
use Rattle.laws.proofs.Bools.{pick_true, pick-false}
use Rattle.listing.specs.Listed.{Output, stored_at}
use Rattle.listing.specs.declared.Cursor.{Cursor}
use Rattle.listing.specs.declared.Entry.{Entry}
use Rattle.std.specs.Prelude.{Option, Some, None}
use Rattle.whole_listing.specs.Listed as WL
use Rattle.whole_listing.specs.Listed.{is_whole}
use Rattle.whole_listing.specs.declared.Entry as WE
use Rattle.pooling.specs.Lists.{Source, whole_at, integer_at, Seen, nothing, real, whole, seen, ends, pooled, pooled_wholes, pooled_seen, pooled_at}
use Rattle.pooling.specs.Entries.{pooled_reals, pooled_integers, mixed_found, mixed_at}
use Rattle.pooling.proofs.Integers.{not-real, not-whole, never_both}

-- ---- by what is found

module _ (size : ℕ) (row : List ℕ) (a : Cursor) (x : Source) (b : Cursor) (y : Source) (at : Cursor) (o : Output) where
  pub reals_law : (f g : Option Entry) → f ≡ whole_at a x → g ≡ whole_at b y
      → pooled_seen size row a x b y at o (seen f None) (seen g None) ≡ pooled_reals size row a x b y at o
  reals_law f g p q = ap₂ (λ (u v : Option Entry). pooled_seen size row a x b y at o (seen u None) (seen v None)) p q

  pub integers_law : (f g : Option WE.Entry) → f ≡ integer_at a x → g ≡ integer_at b y
      → pooled_seen size row a x b y at o (seen None f) (seen None g) ≡ pooled_integers size row a x b y at o
  integers_law f g p q = ap₂ (λ (u v : Option WE.Entry). pooled_seen size row a x b y at o (seen None u) (seen None v)) p q

pub mixed-found : (size : ℕ) (a : Cursor) (x : Source) (b : Cursor) (y : Source) (f : Option WE.Entry) (g : Option Entry) → f ≡ integer_at a x → g ≡ whole_at b y
    → mixed_found size a x b y f g ≡ mixed_at size a x b y
mixed-found size a x b y f g p q = ap₂ (mixed_found size a x b y) p q

-- ---- the call

module _ (size : ℕ) (a : Cursor) (x : Source) (b : Cursor) (y : Source) (at : Cursor) (o : Output) where
  pub no-set : length x.list.sets ≤ a.place → ends (refusal 8) o ≡ pooled_at size a x b y at o
  unfolding pooled_at
  no-set h = sym (pick_true (leb (length x.list.sets) a.place) _ _ (le-leb (length x.list.sets) a.place h))

  abbrev row : List ℕ
  row = get_or x.list.sets a.place []

  -- of the first list's sets only the row is lent on
  abbrev pub bare : Source
  bare = record { list = record { sets = []; words = x.list.words; pos = x.list.pos; neg = x.list.neg }; bounds = x.bounds }

  bare-seen : (f g : Seen) → pooled_seen size row a bare b y at o f g ≡ pooled_seen size row a x b y at o f g
  bare-seen nothing g = refl
  bare-seen (real e) nothing = refl
  bare-seen (real e) (real f) = refl
  bare-seen (real e) (whole f) = refl
  bare-seen (whole e) nothing = refl
  bare-seen (whole e) (real f) = refl
  bare-seen (whole e) (whole f) = refl

  -- a point of i64 values and one of f64 values, in either order
  mixed-seen : (f : Option WE.Entry) (g : Option Entry) → ends (refusal (mixed_found size a bare b y f g)) o ≡ pooled_seen size row a x b y at o (seen None f) (seen g None)
  mixed-seen None g = refl
  mixed-seen (Some e) None = refl
  mixed-seen (Some e) (Some f) = refl

  mixed-seen_2 : (f : Option Entry) (g : Option WE.Entry) → ends (refusal (mixed_found size b y a bare g f)) o ≡ pooled_seen size row a x b y at o (seen f None) (seen None g)
  mixed-seen_2 None None = refl
  mixed-seen_2 None (Some f) = refl
  mixed-seen_2 (Some e) None = refl
  mixed-seen_2 (Some e) (Some f) = refl

  module _ (s : a.place < length x.list.sets) where
    seen_law : (f g : Seen) → f ≡ seen (whole_at a x) (integer_at a x) → g ≡ seen (whole_at b y) (integer_at b y) → pooled_seen size row a x b y at o f g ≡ pooled_at size a x b y at o
    unfolding pooled_at
    seen_law f g p q =
        ap₂ (λ (u v : Seen). pooled_seen size row a x b y at o u v) p q
        ∙ sym (pick-false (leb (length x.list.sets) a.place) (ends (refusal 8) o) _ (lt-leb (length x.list.sets) a.place s))

    -- by the kinds of the words, as the code goes
    seen-real : (c : Cursor) (z : Source) → is_whole c z.list.words ≡ false → seen (whole_at c z) None ≡ seen (whole_at c z) (integer_at c z)
    seen-real c z k = ap (seen (whole_at c z)) (sym (not-whole c z k))

    seen-whole : (c : Cursor) (z : Source) → is_whole c z.list.words ≡ true → seen None (integer_at c z) ≡ seen (whole_at c z) (integer_at c z)
    seen-whole c z k = ap (λ (f : Option Entry). seen f (integer_at c z)) (sym (not-real c z k))

    pub by-reals : is_whole a x.list.words ≡ false → is_whole b y.list.words ≡ false
        → pooled_reals size (get_or x.list.sets a.place []) a bare b y at o ≡ pooled_at size a x b y at o
    by-reals k l = bare-seen (seen (whole_at a x) None) (seen (whole_at b y) None) ∙ seen_law _ _ (seen-real a x k) (seen-real b y l)

    pub by-wholes : is_whole a x.list.words ≡ true → is_whole b y.list.words ≡ true
        → pooled_integers size (get_or x.list.sets a.place []) a bare b y at o ≡ pooled_at size a x b y at o
    by-wholes k l = bare-seen (seen None (integer_at a x)) (seen None (integer_at b y)) ∙ seen_law _ _ (seen-whole a x k) (seen-whole b y l)

    pub by_mixed : is_whole a x.list.words ≡ true → is_whole b y.list.words ≡ false → ends (refusal (mixed_at size a bare b y)) o ≡ pooled_at size a x b y at o
    by_mixed k l = mixed-seen (integer_at a x) (whole_at b y) ∙ seen_law _ _ (seen-whole a x k) (seen-real b y l)

    pub by_mixed_2 : is_whole a x.list.words ≡ false → is_whole b y.list.words ≡ true → ends (refusal (mixed_at size b y a bare)) o ≡ pooled_at size a x b y at o
    by_mixed_2 k l = mixed-seen_2 (whole_at a x) (integer_at b y) ∙ seen_law _ _ (seen-real a x k) (seen-whole b y l)

    -- by the points that lie there
    pub both : (e f : Entry) → whole_at a x ≡ Some e → whole_at b y ≡ Some f
        → pooled size (get_or x.list.sets a.place []) e.bounds (stored_at a e x.bounds x.list) (stored_at b f y.bounds y.list) at o
        ≡ pooled_at size a x b y at o
    both e f p q = seen_law (real e) (real f) (ap (λ (u : Option Entry). seen u (integer_at a x)) (sym p)) (ap (λ (u : Option Entry). seen u (integer_at b y)) (sym q))

    pub both-wholes : (e f : WE.Entry) → integer_at a x ≡ Some e → integer_at b y ≡ Some f
        → pooled_wholes size (get_or x.list.sets a.place []) e.bounds (WL.stored_at a e x.bounds x.list) (WL.stored_at b f y.bounds y.list) at o
        ≡ pooled_at size a x b y at o
    both-wholes e f p q = seen_law (whole e) (whole f) (ap₂ seen (sym (never_both a x e p)) (sym p)) (ap₂ seen (sym (never_both b y f q)) (sym q))
