-- A call comes to its own set's entry while the named sets, its own among them, are at most the limit: demand 3's premise, read off the
-- directory. Assumes nothing.
use Rattle.std.specs.Prelude.{Ok}
use Rattle.std.proofs.Common.{◌≡◌, ℕ, ◌<◌, ◌≤◌, true, false, ltb, List, map, ⊎_elim, arith, ltb-false}
use Rattle.tally.proofs.Entries.{find-set}
use Rattle.sets.specs.Rows.{span, set_of}
use Rattle.directory.specs.Calls.{located}
use Rattle.directory.specs.View.{Stores, set_at, agreesb, sought, entry_at, view}
use Rattle.directory.specs.declared.Directory.{Directory}
use Rattle.directory.specs.declared.Target.TheVariants.{Old, Over}
use Rattle.directory.proofs.Admits.{length-span}
use Rattle.directory.proofs.Laid.{plains-le}
use Rattle.directory.proofs.Located.{blank, counted, sought-held, told}

module _ (limit : ℕ) (d : Directory) (s : Stores) (g : agreesb limit d s ≡ true) where
  -- the count is at most the named sets held
  pub count_held : d.count ≤ d.used
  count_held =
      let n = plains-le (map (set_at s.sets) (span s.order 0 d.used)) in
      let l = length-span (set_at s.sets) s.order 0 d.used in
      ⊎_elim (λ e. omega (arith, e, n, l)) (λ e. omega (arith, e.0, e.1)) (counted limit d s g).1

  -- the slot that is found holds the set
  pub held-set : (row : List ℕ) (x : ℕ) → sought (set_of row) d.used s.sets s.order ≡ Ok x → set_at s.sets x ≡ set_of row
  held-set row x e =
      find-set blank (set_of row) (view blank (λ k. tt) tt d s).entries (entry_at blank (λ k. tt) s x) (sought-held blank (λ k. tt) tt d s (set_of row) x e).1

  -- with room for one more under the limit, overflow plays no part
  module _ (row : List ℕ) (room : d.used < limit) where
    under : ltb d.count limit ≡ false → ⊥
    under e = let h = ltb-false d.count limit e in omega (arith, count_held)

    pub own_old : (x : ℕ) → located limit d s row ≡ Old x → set_at s.sets x ≡ set_of row
    own_old x e = ⊎_elim (λ h. held-set row x h) (λ h. absurd (under h.2)) (told limit d s row (Old x) e).1

    pub no-over : (q : ℕ) → located limit d s row ≡ Over q → ⊥
    no-over q e = under (told limit d s row (Over q) e).1.2
