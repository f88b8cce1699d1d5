-- A directory that disagrees with itself: number 8 and nothing changed, after 12, 6 and 5, on all memory that can be lent. Assumes nothing.
use Prim.Native.Nat.{ℕ, ◌≤◌}
use mathlib.Core.Path.{◌≡◌, refl, sym, ◌∙◌}
use mathlib.Core.Bool.{Bool, true, false, ◌&&◌}
use mathlib.Core.List.{List}
use mathlib.Core.Option.{Option}
use native.Mathlib.Omega.{arith}
use lib.Dec.{leb}
use lib.ListN.{length, replicate}
use Rattle.tally.specs.Kind.{Kind}
use Rattle.tally.specs.Sets.{Set, canonical}
use Rattle.sets.specs.Rows.{row_of}
use Rattle.directory.specs.View.{agreesb}
use Rattle.directory.specs.Calls.{most_sets, accepts}
use Rattle.seats.specs.Seats.{away}
use Rattle.seats.proofs.Seatings.{seat-no, by-no}
use Rattle.value_map.specs.Store.{Store}
use Rattle.value_map.specs.Calls.{Held, refused, passes, lent, called, measured, measured_by}
use Rattle.value_map.proofs.Owed.{Owed}
use Rattle.seats.proofs.Bars.{bar_8, bar_0}
use Rattle.value_map.proofs.Cases.{entered-away, called-barred, called_on, set_is, by-is}

module _ {K : Kind} {S : Store K} (W : Owed S) (limit : ℕ) (h : Held S.Cells) (v : K.Value)
    (l : lent S limit h ≡ true) (f : K.finite v ≡ true) (g : agreesb limit h.kept.dir h.kept.stores ≡ false) where
  -- 8 whether the configuration was accepted or not
  eight : (n : ℕ) → n ≤ 8 → (ok : Bool) (row : List ℕ) → refused 8 h ≡ called S limit h v n ok row (away 8)
  eight n few ok row = go (passes S && ok) refl
    where
      go : (b : Bool) → (passes S && ok) ≡ b → refused 8 h ≡ called S limit h v n ok row (away 8)
      go false q = called-barred S limit h v n ok row (away 8) 8 (sym (bar_8 (lent S limit h) (K.finite v) n (passes S && ok) l f few q)) (λ z. omega (arith, z))
      go true q =
          entered-away S h v row (away 8) (λ z. omega (arith, z))
          ∙ called_on S limit h v n ok row (away 8) 0 (sym (bar_0 (lent S limit h) (K.finite v) n (passes S && ok) l f few q)) refl

  pub set-damaged : (filter : Option (List ℕ)) (attrs : Set) → length attrs ≤ 8 → measured S limit filter h v attrs ≡ refused 8 h
  set-damaged filter attrs few =
      let row = row_of (canonical filter attrs) in
      sym (eight (length attrs) few (accepts limit filter) row ∙ set_is S limit h v filter attrs row (away 8) refl (sym (seat-no limit h.kept.dir h.kept.stores row g)))

  pub handle-damaged : (b : ℕ) → measured_by S limit h v b ≡ refused 8 h
  handle-damaged b =
      sym (eight 0 (omega arith) (leb limit most_sets) (replicate 9 0) ∙ by-is S limit h v b (away 8) (sym (by-no limit h.kept.dir h.kept.stores b g)))
