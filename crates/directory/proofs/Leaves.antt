-- What a call leaves of the directory: stores as long as they were, each slot's set and birth number, unspent numbers for new slots; and a
-- state that a run comes by. Assumes nothing.
use Rattle.std.proofs.Common.{◌≡◌, ℕ, zero, suc, ◌+◌, ◌^◌, ◌<◌, ◌≤◌, true, List, [], ◌∷◌, length, set, refl, ap, ◌∙◌, subst, arith, length-set, get_or-set_other, le-leb}
use Rattle.sets.specs.Rows.{set_of}
use Rattle.sets.proofs.Spans.{length_inserted}
use Rattle.directory.specs.Calls.{Kept, admitted, bound_to, stores_suffice}
use Rattle.directory.specs.View.{Stores, set_at, birth_at, agreesb}
use Rattle.directory.specs.declared.Directory.{Directory}
use Rattle.directory.proofs.Laid.{birth-kept, entered, old-birth, new-birth}
use Rattle.directory.proofs.Refusals.{suffices}

-- "No birth number gets two sets, and a set keeps its number while that has a binding": a used slot keeps its set and its birth number, and
-- a new slot's number was not spent before
pub record Leaves (d : Directory) (s : Stores) (k : Kept) : Type 0 where
  pub sets : length k.stores.sets ≡ length s.sets
  pub entries : length k.stores.entries ≡ length s.entries
  pub order : length k.stores.order ≡ length s.order
  pub last : k.dir.last < 2 ^ 64
  pub own : (x : ℕ) → x ≤ d.used → set_at k.stores.sets x ≡ set_at s.sets x
  pub birth : (x : ℕ) → x ≤ d.used → birth_at k.stores.entries x ≡ birth_at s.entries x
  pub newborn : (x : ℕ) → d.used < x → x ≤ k.dir.used → d.last < birth_at k.stores.entries x

module _ (d : Directory) (s : Stores) where
  -- other entries with the same birth numbers
  pub births_leave : (k : Kept) (l : List (List ℕ)) → length l ≡ length k.stores.entries → ((y : ℕ) → birth_at l y ≡ birth_at k.stores.entries y) → Leaves d s k
      → Leaves d s (record { dir = k.dir; stores = record { sets = k.stores.sets; entries = l; order = k.stores.order } })
  births_leave k l n b v =
      record {
        sets = v.sets;
        entries = n ∙ v.entries;
        order = v.order;
        last = v.last;
        own = v.own;
        birth = λ x h. b x ∙ v.birth x h;
        newborn = λ x h u. rw (b x) (v.newborn x h u);
      }

  module _ (small : d.last < 2 ^ 64) where
    pub same-leaves : Leaves d s (record { dir = d; stores = s })
    same-leaves =
        record { sets = refl; entries = refl; order = refl; last = small; own = λ x h. refl; birth = λ x h. refl; newborn = λ x h k. absurd (omega arith) }

    long-bound : (x n : ℕ) → length (bound_to s.entries x n) ≡ length s.entries
    unfolding bound_to
    long-bound x n = length-set s.entries x _

    pub rebind-leaves : (x n : ℕ) → x < length s.entries → Leaves d s (record { dir = d; stores = record { sets = s.sets; entries = bound_to s.entries x n; order = s.order } })
    rebind-leaves x n h =
        births_leave (record { dir = d; stores = s }) (bound_to s.entries x n) (long-bound x n) (λ y. birth-kept s.entries x n y h) same-leaves

  module _ (row : List ℕ) (r more b : ℕ) (ls : d.used + 1 < length s.sets) (le : d.used + 1 < length s.entries) (lo : d.used < length s.order) (rank : r ≤ d.used) (room : d.last < 18446744073709551615) where
    old-set : (x : ℕ) → x ≤ d.used → set_at (set s.sets (d.used + 1) row) x ≡ set_at s.sets x
    old-set zero h = refl
    old-set (suc x) h = ap set_of (get_or-set_other s.sets (d.used + 1) (suc x) row [] (λ e. omega arith))

    pub admit-leaves : Leaves d s (admitted d s row r more b)
    unfolding admitted
    admit-leaves =
        record {
          sets = length-set s.sets (d.used + 1) row;
          entries = length-set s.entries (d.used + 1) ((d.last + 1) ∷ b ∷ 0 ∷ []);
          order = length_inserted s.order d.used r (d.used + 1) rank lo;
          last = omega arith;
          own = old-set;
          birth = old-birth d s b;
          newborn = λ x h l. let e : d.used + 1 ≡ x = omega arith in subst (λ (y : ℕ). d.last < birth_at (entered d s b) y) e (omega (arith, new-birth d s b le));
        }

-- a state that a run comes by
pub record Good (limit : ℕ) (k : Kept) : Type 0 where
  pub agrees : agreesb limit k.dir k.stores ≡ true
  pub lent : stores_suffice limit k.stores ≡ true
  pub last : k.dir.last < 2 ^ 64

-- and the next one
pub lasts : (limit : ℕ) (k : Kept) → Good limit k → (j : Kept) → Leaves k.dir k.stores j → agreesb limit j.dir j.stores ≡ true → Good limit j
lasts limit k g j l b =
    let r = suffices limit k.stores g.lent in
    record {
      agrees = b;
      lent = rw (le-leb (limit + 2) (length j.stores.sets) (omega (arith, l.sets, r.sets)), le-leb (limit + 2) (length j.stores.entries) (omega (arith, l.entries, r.entries)), le-leb (limit + 2) (length j.stores.order) (omega (arith, l.order, r.order)));
      last = l.last;
    }
