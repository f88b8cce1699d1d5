-- BETWEEN OUR OWN CRATES: serves inner contracts and proofs; nobody needs it to believe the public calls or the theorems.
-- One value recorded into rows, step by step, as the code does it. Assumes nothing.
use Rattle.std.specs.Prelude.{ℕ, pred, ◌+◌, ◌/◌, ◌^◌, min, max, length, ◌==◌}
use Rattle.laws.specs.Pick.{pick}
use Rattle.points.specs.Points.{Row, Point, Value, naught, plus, minus}
use Rattle.rows.specs.Rows.{downscaled, recorded, recorded_from}
unfoldable pub use Rattle.rows.specs.Rows.{narrow, lowering}

-- a row k levels lower, and a row with one more at bin b
abbrev pub lowered : ℕ → Row → Row
lowered k r = record { start = r.start / 2 ^ k; counts = downscaled k r.start r.counts }

abbrev pub with1 : Row → ℕ → Row
with1 r b = record { start = recorded_from r.start r.counts b; counts = recorded r.start r.counts b }

-- the lowest and the highest bin of a row of n counts from s on, and of one more at bin b
unfoldable pub low_bin : ℕ → ℕ → ℕ → ℕ
low_bin s n b = pick (n == 0) b (min s b)

unfoldable pub high_bin : ℕ → ℕ → ℕ → ℕ
high_bin s n b = pick (n == 0) b (max (s + pred n) b)

-- the lowering that a row needs for one more at bin b
abbrev pub needed : ℕ → Row → ℕ → ℕ
needed size r b = lowering size (low_bin r.start (length r.counts) b) (high_bin r.start (length r.counts) b)

-- one value of the point's level recorded: both rows lowered as the recorded sign's row needs, and one more
unfoldable pub placed : ℕ → Point → Value → Point
placed size p naught = record { d = p.d; pos = p.pos; neg = p.neg; zeros = p.zeros + 1; total = p.total + 1 }
placed size p (plus b) =
    let k = needed size p.pos b in
    record { d = p.d + k; pos = with1 (lowered k p.pos) (b / 2 ^ k); neg = lowered k p.neg; zeros = p.zeros; total = p.total + 1 }
placed size p (minus b) =
    let k = needed size p.neg b in
    record { d = p.d + k; pos = lowered k p.pos; neg = with1 (lowered k p.neg) (b / 2 ^ k); zeros = p.zeros; total = p.total + 1 }
