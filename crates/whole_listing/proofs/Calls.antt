-- The outcomes of reading a point of i64 values, case by case. Assumes nothing.
use Prim.Native.Nat.{ℕ, ◌+◌, ◌≤◌, ◌<◌}
use mathlib.Core.Path.{◌≡◌, refl, sym, ap, ◌∙◌}
use mathlib.Core.Bool.{Bool, true, false, ◌&&◌}
use mathlib.Core.List.{List, []}
use native.Mathlib.Omega.{arith}
use borrow.Author.Tests.{le-leb, lt-leb}
use lib.Dec.{leb}
use lib.ListN.{length, get_or, get_or-eq_default}
use Rattle.laws.specs.Pick.{pick}
use Rattle.laws.proofs.Bools.{not-both, pick_true, pick-false}
use Rattle.listing.specs.Words as F
use Rattle.listing.specs.Listed as L
use Rattle.listing.specs.Listed.{behind, within}
use Rattle.listing.specs.declared.Cursor.{Cursor}
use Rattle.listing.specs.declared.Entry as Le
use Rattle.std.specs.Prelude.{Some, None}
use Rattle.whole_listing.specs.Words.{shadow_words, bounds_in, point_in, is_point}
use Rattle.whole_listing.specs.Listed.{entry_in, point_at, is_whole}
use Rattle.whole_listing.specs.Inner.{blank, own_words, numbered_found}
use Rattle.whole_listing.proofs.Reading.{Wide, shadow-is, own_is, whole_is}

module _ (at : Cursor) (w : List ℕ) (pos neg : ℕ) where
  abbrev lies : Bool
  lies = within at (point_in w).figures (bounds_in w) pos neg

  not_own : (t : Bool) → is_point w ≡ t → own_words w ≡ false → t ≡ false
  not_own true e h = absurd (not-both (own_words w) (own_is w e) h)
  not_own false e h = refl

  pub entry-no : own_words w ≡ false → None ≡ entry_in at w pos neg
  unfolding entry_in
  entry-no h = sym (pick-false (is_point w && lies) _ _ (ap (λ (t : Bool). t && lies) (not_own (is_point w) refl h)))

  module _ (n : Wide w) (o : own_words w ≡ true) where
    same_test : F.is_point (shadow_words w) ≡ is_point w
    same_test = go (F.is_point (shadow_words w)) (is_point w) refl refl
      where
        go : (s t : Bool) → F.is_point (shadow_words w) ≡ s → is_point w ≡ t → s ≡ t
        go true true p q = refl
        go true false p q = absurd (not-both (is_point w) (whole_is w n o p) q)
        go false true p q = absurd (not-both (F.is_point (shadow_words w)) (shadow-is w q) p)
        go false false p q = refl

    found-either : (t : Bool) (e : Le.Entry) → numbered_found w (pick t (Some e) None) ≡ pick t (numbered_found w (Some e)) None
    unfolding pick
    found-either true e = refl
    found-either false e = refl

    -- by its shadow
    pub entry-by : numbered_found w (L.entry_in at (shadow_words w) pos neg) ≡ entry_in at w pos neg
    unfolding entry_in L.entry_in point_in F.point_in bounds_in
    entry-by =
        let v = shadow_words w in
        found-either (F.is_point v && within at (F.point_in v).figures (F.bounds_in v) pos neg)
        (record { point = F.point_in v; bounds = F.bounds_in v; next = behind at (F.point_in v).figures (F.bounds_in v) })
        ∙ ap (λ (t : Bool). pick (t && lies) (Some (record { point = point_in w; bounds = bounds_in w; next = behind at (point_in w).figures (bounds_in w) })) None) same_test

module _ (at : Cursor) (words : List (List ℕ)) (pos neg : ℕ) where
  pub nothing-there : length words ≤ at.place → None ≡ point_at at words pos neg
  unfolding point_at
  nothing-there h = sym (pick_true (leb (length words) at.place) _ _ (le-leb (length words) at.place h))

  pub words-there : at.place + 1 ≤ length words → entry_in at (get_or words at.place []) pos neg ≡ point_at at words pos neg
  unfolding point_at
  words-there h = sym (pick-false (leb (length words) at.place) _ _ (lt-leb (length words) at.place (omega arith)))

-- ---- own words, test by test

pub no_kind : (at : Cursor) (words : List (List ℕ)) → length words ≤ at.place → false ≡ is_whole at words
unfolding is_whole
no_kind at words h = sym (ap (λ (w : List ℕ). leb 2 (get_or w 0 0)) (get_or-eq_default words [] h))

module _ (w : List ℕ) where
  abbrev low : Bool
  low = blank (leb 2 (get_or w 8 0)) (get_or w 9 0)

  abbrev high : Bool
  high = blank (leb 2 (get_or w 8 0)) (get_or w 10 0)

  pub own-kind : get_or w 0 0 < 2 → false ≡ own_words w
  unfolding own_words
  own-kind h = sym (ap (λ (t : Bool). t && (low && high)) (lt-leb 2 (get_or w 0 0) h))

  pub own-rest : 2 ≤ get_or w 0 0 → (t : Bool) → t ≡ low → t && high ≡ own_words w
  unfolding own_words
  own-rest h t e = ap (λ (t : Bool). t && high) e ∙ sym (ap (λ (t : Bool). t && (low && high)) (le-leb 2 (get_or w 0 0) h))
