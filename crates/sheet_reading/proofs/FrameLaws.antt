-- The tests of a sheet's frame in the order of the code, and what a sheet in its frame has. Assumes nothing.
use Prim.Native.Nat.{ℕ, ◌+◌, ◌/◌, ◌%◌, ◌<◌, ◌≤◌}
use mathlib.Core.Path.{◌≡◌, sym, ap, ap₂, ◌∙◌}
use mathlib.Core.Bool.{true, false}
use mathlib.Core.List.{List}
use native.Mathlib.Omega.{arith}
use borrow.Author.Tests.{eq-eqb, ne_eqb, le-leb, lt-leb, leb-true}
use lib.Dec.{leb, eqb}
use lib.ListN.{length}
use Rattle.laws.proofs.Bools.{and_left, and_right}
use Rattle.sets.specs.All.{allb}
use Rattle.records.specs.Inner.{link_holds, cell_at, place_of, Room}
use Rattle.records.proofs.Found.{cells_at}
use Rattle.records.proofs.Laid.{place-room}
use Rattle.sheets.specs.declared.Header.{Header}
use Rattle.sheets.specs.Sheet.{info_in, points_in, decoded}
use Rattle.sheets.specs.Inner.{records_in, good_shape, good_header, framed}

module _ (s : List ℕ) where
  pub shape-odd : (length s % 32 ≡ 0 → ⊥) → false ≡ good_shape s
  unfolding good_shape
  shape-odd h = rw (ne_eqb (length s % 32) 0 h)

  pub shape-none : length s % 32 ≡ 0 → records_in s < 1 → false ≡ good_shape s
  unfolding good_shape
  shape-none h g = rw (eq-eqb (length s % 32) 0 h, lt-leb 1 (records_in s) g)

  pub shape-rest : length s % 32 ≡ 0 → 1 ≤ records_in s → leb (records_in s) 65536 ≡ good_shape s
  unfolding good_shape
  shape-rest h g = rw (eq-eqb (length s % 32) 0 h, le-leb 1 (records_in s) g)

  pub shape-long : good_shape s ≡ true → 32 ≤ length s
  unfolding good_shape
  shape-long h = omega (arith, leb-true 1 (records_in s) (and_left _ _ (and_right (eqb (length s % 32) 0) _ h)))

  shape-few : good_shape s ≡ true → records_in s ≤ 65536
  unfolding good_shape
  shape-few h = leb-true (records_in s) 65536 (and_right (leb 1 (records_in s)) _ (and_right (eqb (length s % 32) 0) _ h))

  pub header_form : (info_in s % 256 ≡ 0 → ⊥) → false ≡ good_header s
  unfolding good_header
  header_form h = rw (ne_eqb (info_in s % 256) 0 h)

  pub header_delta : info_in s % 256 ≡ 0 → 1 < info_in s / 256 % 256 → false ≡ good_header s
  unfolding good_header
  header_delta h g = rw (eq-eqb (info_in s % 256) 0 h, lt-leb (info_in s / 256 % 256) 1 g)

  pub header-many : info_in s % 256 ≡ 0 → info_in s / 256 % 256 ≤ 1 → 64 < info_in s / 65536 → false ≡ good_header s
  unfolding good_header
  header-many h g f = rw (eq-eqb (info_in s % 256) 0 h, le-leb (info_in s / 256 % 256) 1 g, lt-leb (info_in s / 65536) 64 f)

  pub header-rest : info_in s % 256 ≡ 0 → info_in s / 256 % 256 ≤ 1 → info_in s / 65536 ≤ 64 → eqb (cell_at s 2) 0 ≡ good_header s
  unfolding good_header
  header-rest h g f = rw (eq-eqb (info_in s % 256) 0 h, le-leb (info_in s / 256 % 256) 1 g, le-leb (info_in s / 65536) 64 f)

  pub frame-shape : good_shape s ≡ false → false ≡ framed s
  unfolding framed
  frame-shape h = rw h

  pub frame-header : good_shape s ≡ true → good_header s ≡ false → false ≡ framed s
  unfolding framed
  frame-header h g = rw (h, g)

  pub frame-rest : good_shape s ≡ true → good_header s ≡ true → allb (records_in s) (link_holds (info_in s) (records_in s) s) ≡ framed s
  unfolding framed
  frame-rest h g = rw (h, g)

  -- ---- in its frame

  framed-shape : framed s ≡ true → good_shape s ≡ true
  unfolding framed
  framed-shape h = and_left (good_shape s) _ h

  pub framed-long : framed s ≡ true → 32 ≤ length s
  framed-long h = shape-long (framed-shape h)

  pub framed-few : framed s ≡ true → records_in s ≤ 65536
  framed-few h = shape-few (framed-shape h)

  -- at most 64 points
  pub framed-points : framed s ≡ true → points_in s ≤ 64
  unfolding framed good_header
  framed-points h =
      leb-true (points_in s) 64
      (and_left _ _ (and_right (leb (info_in s / 256 % 256) 1) _ (and_right (eqb (info_in s % 256) 0) _ (and_left _ _ (and_right (good_shape s) _ h)))))

  -- the words of the header are there
  pub framed-cell : (k : ℕ) → k < 3 → framed s ≡ true → (k < 4294967296) × (place_of k + 8 ≤ length s)
  framed-cell k h f = (omega arith, place-room k 1 (length s) (omega arith) (framed-long f))

  -- the header out of its words
  pub header_is : (a b i : ℕ) → framed s ≡ true → a ≡ cell_at s 0 → b ≡ cell_at s 1 → i ≡ info_in s
      → ◌≡◌ {A = Header} (record { start = a; time = b; delta = eqb (i / 256 % 256) 1 }) (decoded s).header
  unfolding decoded
  header_is a b i f p q r =
      let l = framed-long f in
      let x = p ∙ sym (cells_at s 0 (omega (arith, l))) in
      let y = q ∙ sym (cells_at s 1 (omega (arith, l))) in
      ap (λ (j : ℕ). record { start = a; time = b; delta = eqb (j / 256 % 256) 1 }) r
      ∙ ap₂ (λ (u v : ℕ). record { start = u; time = v; delta = eqb (info_in s / 256 % 256) 1 }) x y

-- room for the links of a sheet in shape
pub info-room : (s : List ℕ) (info : ℕ) → good_shape s ≡ true → info < 4294967296 → Room info (length s / 32) s
info-room s info h g = record { small = g; few = omega (arith, shape-few s h); long = omega arith }
