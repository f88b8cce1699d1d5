-- Stores that suffice, and what configuring accepts. Assumes nothing.
use Rattle.std.proofs.Common.{◌≡◌, ℕ, ◌+◌, ◌-◌, ◌<◌, ◌≤◌, Bool, true, false, not, ◌&&◌, leb, List, length, sym, ◌∙◌, arith, le-leb, leb-true}
use mathlib.Core.Option.{Option}
use borrow.Author.Tests.{lt-leb, not-true, not-false}
use Rattle.laws.proofs.Cases.{and-true}
use Rattle.sets.specs.Sorted.{filter_of}
use Rattle.directory.specs.Calls.{most_sets, most_keys, few_keys, accepts, stores_suffice}
use Rattle.directory.specs.View.{Stores}

-- limit + 2, without the sum
module _ (limit n : ℕ) where
  pub under-two : n < 2 → false ≡ leb (limit + 2) n
  under-two h = sym (lt-leb (limit + 2) n (omega arith))

  pub too_few : 2 ≤ n → n - 2 < limit → false ≡ leb (limit + 2) n
  too_few h k = sym (lt-leb (limit + 2) n (omega arith))

  pub as_many : 2 ≤ n → limit ≤ n - 2 → true ≡ leb (limit + 2) n
  as_many h k = sym (le-leb (limit + 2) n (omega arith))

-- three tests, one after another
module _ (x y z a b c : Bool) (p : x ≡ a) where
  pub first-no : not x ≡ true → false ≡ (a && (b && c))
  first-no h = let e : a ≡ false = sym p ∙ not-true x h in rw e

  module _ (h : not x ≡ false) (q : y ≡ b) where
    pub second-no : not y ≡ true → false ≡ (a && (b && c))
    second-no k = let e : a ≡ true = sym p ∙ not-false x h in let f : b ≡ false = sym q ∙ not-true y k in rw (e, f)

    pub third : not y ≡ false → z ≡ c → z ≡ (a && (b && c))
    third k r = let e : a ≡ true = sym p ∙ not-false x h in let f : b ≡ true = sym q ∙ not-false y k in rw (e, f) r

-- what configuring accepts
module _ (limit : ℕ) (present : Bool) (l : List ℕ) where
  pub over-limit : most_sets < limit → false ≡ accepts limit (filter_of present l)
  over-limit h = rw (lt-leb limit most_sets h)

  module _ (h : limit ≤ most_sets) where
    pub no-filter : present ≡ false → true ≡ accepts limit (filter_of present l)
    no-filter e = rw (le-leb limit most_sets h, e)

    pub many-keys : present ≡ true → most_keys < length l → false ≡ accepts limit (filter_of present l)
    many-keys e k = rw (le-leb limit most_sets h, e, lt-leb (length l) most_keys k)

    pub few-keys : present ≡ true → length l ≤ most_keys → true ≡ accepts limit (filter_of present l)
    few-keys e k = rw (le-leb limit most_sets h, e, le-leb (length l) most_keys k)

pub within : (limit : ℕ) (filter : Option (List ℕ)) → accepts limit filter ≡ true → limit ≤ most_sets
within limit filter e = leb-true limit most_sets (and-true (leb limit most_sets) (few_keys filter) e).0

-- stores that suffice
pub record Suffice (limit : ℕ) (s : Stores) : Type 0 where
  pub sets : limit + 2 ≤ length s.sets
  pub entries : limit + 2 ≤ length s.entries
  pub order : limit + 2 ≤ length s.order

pub suffices : (limit : ℕ) (s : Stores) → stores_suffice limit s ≡ true → Suffice limit s
suffices limit s e =
    let a = and-true (leb (limit + 2) (length s.sets)) _ e in
    let b = and-true (leb (limit + 2) (length s.entries)) _ a.1 in
    record { sets = leb-true _ _ a.0; entries = leb-true _ _ b.0; order = leb-true _ _ b.1 }
