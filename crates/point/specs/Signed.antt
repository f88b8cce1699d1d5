-- Scale, offsets and the sum's bits of a point, as they leave. Assumes nothing.
use Rattle.std.specs.Prelude.{ℕ, Bool, eqb, pos, Option, Some, None, ℤ}
use Rattle.laws.specs.Pick.{pick}
use Rattle.index.specs.Signed.{scale_answer, index_answer}
use Rattle.rows.specs.declared.Row.{Row}
use Rattle.point.specs.declared.Figures.{Figures}
use Rattle.point.specs.declared.Figures.TheVariants.{Exponential, Explicit}

-- the scale of the level; a point of the explicit kind has none
abbrev pub scale_shown : Figures → Option ℤ
scale_shown (Exponential c) = scale_answer c.level
scale_shown (Explicit n) = None

-- a row's offset is the index of its first bin; "an empty row has offset 0"
unfoldable pub offset_answer : ℕ → Row → Option ℤ
offset_answer level r = pick (eqb r.len 0) (Some (pos 0)) (index_answer level r.start)

-- the offset of the row of a sign
abbrev pub offset_shown : Bool → Figures → Option ℤ
offset_shown negative (Exponential c) = offset_answer c.level (pick negative c.neg c.pos)
offset_shown negative (Explicit n) = None
