-- Bindings and releases from a fresh start on: the directory agrees after each, and birth numbers keep their sets.
-- Assumes nothing.
use Rattle.std.specs.Prelude.{Ok, Err, Result, ℕ}
use Prim.Native.Nat.{ℕ, ◌+◌, ◌-◌, ◌^◌, ◌<◌}
use mathlib.Core.Path.{◌≡◌, refl, sym, subst, ◌∙◌}
use mathlib.Core.Bool.{true}
use mathlib.Core.List.{List, [], ◌∷◌}
use mathlib.Core.Option.{Option}
use native.Mathlib.Omega.{arith}
use borrow.Author.Tests.{le-leb, leb-false}
use lib.Dec.{leb}
use lib.ListN.{length, get_or, set, length-set}
use Rattle.laws.specs.Said.{Said, number}
use Rattle.laws.proofs.Cases.{true-not-false, and-true}
use Rattle.tally.specs.Sets.{Set, canonical, Lendable}
use Rattle.sets.specs.Rows.{row_of}
use Rattle.sets.specs.Sorted.{most_attributes}
use Rattle.directory.specs.Calls.{Kept, over_row, located, scan, most_sets, accepts, few_keys, stores_suffice}
use Rattle.directory.specs.View.{Stores, agreesb}
use Rattle.directory.specs.declared.Directory.{Directory}
use Rattle.directory.specs.declared.Target.{Target}
use Rattle.directory.specs.declared.Target.TheVariants.{Disagrees, Old, New, Over}
use Rattle.directory.proofs.Laws.{slots_of, few, slot-used, scan_in}
use Rattle.directory.proofs.Leaves as lv
use Rattle.directory.proofs.Leaves.{same-leaves, rebind-leaves, admit-leaves, Good, lasts}
use Rattle.directory.proofs.Located.{told, old-there, new-there, over-there}
use Rattle.directory.proofs.Refusals.{Suffice, suffices}
use Rattle.bindings.specs.Calls.{Outcome, refused, released_at, released_in, bound_at, bound_in, started, bound, released}
use Rattle.bindings.proofs.Keeps.{either, bind-keeps, release-keeps, start-keeps, start_is}

-- neither 8 nor 12
abbrev pub Quiet : Said (Option ℕ) → Type 0
Quiet a = (number a ≡ 8 → ⊥) × (number a ≡ 12 → ⊥)

-- what an outcome leaves: one of these numbers it is not, and the directory as directory's `Leaves` says
abbrev pub Leaves : Directory → Stores → Outcome → Type 0
Leaves d s o = Quiet o.answer × lv.Leaves d s o.kept

module _ (d : Directory) (s : Stores) (small : d.last < 2 ^ 64) where
  other-number : (n : ℕ) → (n ≡ 8 → ⊥) → (n ≡ 12 → ⊥) → Leaves d s (refused n d s)
  other-number n p q = ((p, q), same-leaves d s small)

-- binding and releasing, where the directory agrees
module _ (limit : ℕ) (d : Directory) (s : Stores) (g : agreesb limit d s ≡ true) (small : d.last < 2 ^ 64) (e : Suffice limit s) where
  bound-leaves : (row : List ℕ) (t : Target) → located limit d s row ≡ t → Leaves d s (bound_at d s row t)
  bound-leaves row Disagrees p = true-not-false (sym g ∙ told limit d s row Disagrees p)
  bound-leaves row (Old x) p =
      either (Leaves d s) (leb 18446744073709551615 (get_or (get_or s.entries x []) 1 0)) _ _ (λ b. other-number d s small 9 (λ q. omega arith) (λ q. omega arith))
      (λ b. (((λ q. omega arith), (λ q. omega arith)), rebind-leaves d s small x (get_or (get_or s.entries x []) 1 0 + 1) (old-there limit d s row x p e.entries)))
  bound-leaves row (New r) p =
      let n = new-there limit d s row r p in
      either (Leaves d s) (leb 18446744073709551615 d.last) _ _ (λ b. other-number d s small 9 (λ q. omega arith) (λ q. omega arith))
      (λ b. (((λ q. omega arith), (λ q. omega arith)), admit-leaves d s row r 1 1 (omega (arith, n.1, e.sets)) (omega (arith, n.1, e.entries)) (omega (arith, n.1, e.order)) n.0 (leb-false 18446744073709551615 d.last b)))
  bound-leaves row (Over r) p =
      let n = over-there limit d s row r p in
      either (Leaves d s) (leb 18446744073709551615 d.last) _ _ (λ b. other-number d s small 9 (λ q. omega arith) (λ q. omega arith))
      (λ b. (((λ q. omega arith), (λ q. omega arith)), admit-leaves d s over_row r 0 1 (omega (arith, n.1, e.sets)) (omega (arith, n.1, e.entries)) (omega (arith, n.1, e.order)) n.0 (leb-false 18446744073709551615 d.last b)))

  freed-leaves : (h : ℕ) (o : Result ℕ ℕ) → scan h s.entries (slots_of d s) ≡ o → Leaves d s (released_at d s o)
  freed-leaves h (Err r) p = other-number d s small 7 (λ q. omega arith) (λ q. omega arith)
  freed-leaves h (Ok x) p =
      let u = slot-used limit d s g x (scan_in h s.entries x (slots_of d s) p) in
      (((λ q. omega arith), (λ q. omega arith)), rebind-leaves d s small x (get_or (get_or s.entries x []) 1 0 - 1) (omega (arith, few limit d s g, e.entries)))

-- in a state that a run comes by
module _ (limit : ℕ) (filter : Option (List ℕ)) (a : accepts limit filter ≡ true) (k : Kept) (g : Good limit k) where
  pub bind-leaves : (attrs : Set) → Leaves k.dir k.stores (bound limit filter k.dir k.stores attrs)
  unfolding bound bound_in
  bind-leaves attrs =
      either (Leaves k.dir k.stores) (stores_suffice limit k.stores) _ _
      (λ e. either (Leaves k.dir k.stores) (leb (length attrs) most_attributes) _ _
      (λ h. either (Leaves k.dir k.stores) (accepts limit filter) _ _
      (λ b. bound-leaves limit k.dir k.stores g.agrees g.last (suffices limit k.stores e) (row_of (canonical filter attrs)) (located limit k.dir k.stores (row_of (canonical filter attrs))) refl)
      (λ b. true-not-false (sym a ∙ b)))
      (λ h. other-number k.dir k.stores g.last 5 (λ q. omega arith) (λ q. omega arith)))
      (λ e. true-not-false (sym g.lent ∙ e))

  pub release-leaves : (h : ℕ) → Leaves k.dir k.stores (released limit k.dir k.stores h)
  unfolding released released_in
  release-leaves h =
      either (Leaves k.dir k.stores) (stores_suffice limit k.stores) _ _
      (λ e. either (Leaves k.dir k.stores) (leb limit most_sets) _ _
      (λ l. either (Leaves k.dir k.stores) (agreesb limit k.dir k.stores) _ _
      (λ b. freed-leaves limit k.dir k.stores g.agrees g.last (suffices limit k.stores e) h (scan h k.stores.entries (slots_of k.dir k.stores)) refl)
      (λ b. true-not-false (sym g.agrees ∙ b)))
      (λ l. true-not-false (sym (and-true (leb limit most_sets) (few_keys filter) a).0 ∙ l)))
      (λ e. true-not-false (sym g.lent ∙ e))

-- the calls, with attributes that can be lent
pub data Move : Type 0 where
  binding : (attrs : Set) → Lendable attrs → Move
  releasing : ℕ → Move

module _ (limit : ℕ) (filter : Option (List ℕ)) where
  abbrev pub made : Kept → Move → Outcome
  made k (binding attrs small) = bound limit filter k.dir k.stores attrs
  made k (releasing h) = released limit k.dir k.stores h

  module _ (a : accepts limit filter ≡ true) where
    pub move-leaves : (k : Kept) → Good limit k → (x : Move) → Leaves k.dir k.stores (made k x)
    move-leaves k g (binding attrs small) = bind-leaves limit filter a k g attrs
    move-leaves k g (releasing h) = release-leaves limit filter a k g h

    pub move-good : (k : Kept) → Good limit k → (x : Move) → Good limit (made k x).kept
    move-good k g (binding attrs small) =
        lasts limit k g (made k (binding attrs small)).kept (move-leaves k g (binding attrs small)).1 (bind-keeps limit k.dir k.stores g.agrees filter attrs small g.last)
    move-good k g (releasing h) =
        lasts limit k g (made k (releasing h)).kept (move-leaves k g (releasing h)).1 (release-keeps limit k.dir k.stores g.agrees h)

    pub start-good : (s : Stores) → stores_suffice limit s ≡ true → Good limit (started limit filter s).kept
    start-good s e =
        let r = suffices limit s e in
        let q : length (set s.entries 0 (0 ∷ 0 ∷ 0 ∷ [])) ≡ length s.entries = length-set s.entries 0 (0 ∷ 0 ∷ 0 ∷ []) in
        let p = start_is limit filter s a e in
        record {
          agrees = start-keeps limit filter s a e;
          lent = subst (λ (k : Kept). stores_suffice limit k.stores ≡ true) (sym p)
              (rw (le-leb (limit + 2) (length s.sets) r.sets, le-leb (limit + 2) (length (set s.entries 0 (0 ∷ 0 ∷ 0 ∷ []))) (omega (arith, q, r.entries)), le-leb (limit + 2) (length s.order) r.order));
          last = subst (λ (k : Kept). k.dir.last < 2 ^ 64) (sym p) (omega arith);
        }
