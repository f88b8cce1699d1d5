-- Document 01's run of the gauge program: the point of its one collection, as it lies in the output, is printed as the two lines that it
-- gives, and its card; and a collection of one sum. Three computed tests of the definitions. Assumes nothing.
use Prim.Native.Nat.{ℕ}
use mathlib.Core.Path.{◌≡◌, refl}
use mathlib.Core.List.{List, [], ◌∷◌}
use lib.Ieee.{is_nan, of_bits, to_bits}
use Rattle.laws.specs.Pick.{pick}
use Rattle.text.specs.Numbers.{glyph_of, hex_digits}
use Rattle.index.specs.Signed.{scale_answer, index_answer}
use Rattle.floats.specs.Grid.{is_whole}
use Rattle.points.specs.Agreement.{row_agrees, agrees}
use Rattle.points.specs.Handed.{handed_agrees}
use Rattle.point.specs.Handing.{agrees_alone}
use Rattle.point.specs.Signed.{offset_answer}
use Rattle.mean.specs.Rounding.{rounded, nearest}
use Rattle.mean.specs.Mean.{on_grid, mean_of, mean_in}
use Rattle.sets.specs.All.{allb}
use Rattle.sets.specs.Rows.{set_of}
use Rattle.listing.specs.Words.{figures_in, bounds_in, extreme_in, point_in, is_point}
use Rattle.listing.specs.Listed.{Output, entry_in, point_at}
use Rattle.lines.specs.Written.{digits_within, decimal}
use Rattle.printing.specs.declared.Form.TheVariants.{Point, Card}
use Rattle.printing.specs.Fields.{each, joined, listed, line, attribute_field, set_field, float_field, row_field}
use Rattle.printing.specs.Printed.{point_line, card_line, line_at, next_at, lines_by, collection_head, collection_lines, value_line, value_at, values_from, value_lines}

-- the set 1:5; 5 values, one of them zero, at scale 0; rows from index -1 on; min, max and sum
abbrev pub example : Output
example =
    record {
      sets = (4294967301 ∷ 0 ∷ 0 ∷ 0 ∷ 0 ∷ 0 ∷ 0 ∷ 0 ∷ 1 ∷ []) ∷ [];
      words = (0 ∷ 5 ∷ 1 ∷ 10 ∷ 2047 ∷ 3 ∷ 2047 ∷ 1 ∷ 3 ∷ 0xbff0_0000_0000_0000 ∷ 0x4008_0000_0000_0000 ∷ 0x4014_0000_0000_0000 ∷ []) ∷ [];
      pos = 1 ∷ 1 ∷ 1 ∷ [];
      neg = 1 ∷ [];
    }

-- "c 100 200 1", "p 1:5 5 1 0 BFF0000000000000 4008000000000000 4014000000000000 -1:1,1,1 -1:1"
abbrev pub text : List ℕ
text =
    99 ∷ 32 ∷ 49 ∷ 48 ∷ 48 ∷ 32 ∷ 50 ∷ 48 ∷ 48 ∷ 32 ∷ 49 ∷ 10 ∷ 112 ∷ 32 ∷ 49 ∷ 58 ∷ 53 ∷ 32 ∷ 53 ∷ 32 ∷ 49 ∷ 32 ∷ 48 ∷ 32 ∷ 66 ∷ 70 ∷ 70 ∷
    48 ∷ 48 ∷ 48 ∷ 48 ∷ 48 ∷ 48 ∷ 48 ∷ 48 ∷ 48 ∷ 48 ∷ 48 ∷ 48 ∷ 48 ∷ 32 ∷ 52 ∷ 48 ∷ 48 ∷ 56 ∷ 48 ∷ 48 ∷ 48 ∷ 48 ∷ 48 ∷ 48 ∷ 48 ∷ 48 ∷ 48 ∷
    48 ∷ 48 ∷ 48 ∷ 32 ∷ 52 ∷ 48 ∷ 49 ∷ 52 ∷ 48 ∷ 48 ∷ 48 ∷ 48 ∷ 48 ∷ 48 ∷ 48 ∷ 48 ∷ 48 ∷ 48 ∷ 48 ∷ 48 ∷ 32 ∷ 45 ∷ 49 ∷ 58 ∷ 49 ∷ 44 ∷ 49 ∷
    44 ∷ 49 ∷ 32 ∷ 45 ∷ 49 ∷ 58 ∷ 49 ∷ 10 ∷ []

pub prints_exactly : collection_lines Point 100 200 1 example [] ≡ text
unfolding collection_lines collection_head lines_by line_at next_at point_line line joined each listed attribute_field set_field float_field row_field decimal digits_within glyph_of hex_digits scale_answer index_answer offset_answer set_of figures_in bounds_in extreme_in point_in is_point entry_in point_at allb is_nan of_bits to_bits pick
prints_exactly = refl

-- "c 100 200 1", "1:5 100": the card of the same point, whose sum is 5.0
pub prints-a-card : collection_lines Card 100 200 1 example []
    ≡ 99 ∷ 32 ∷ 49 ∷ 48 ∷ 48 ∷ 32 ∷ 50 ∷ 48 ∷ 48 ∷ 32 ∷ 49 ∷ 10 ∷ 49 ∷ 58 ∷ 53 ∷ 32 ∷ 49 ∷ 48 ∷ 48 ∷ 10 ∷ []
unfolding collection_lines collection_head lines_by line_at next_at card_line line joined each listed attribute_field set_field decimal digits_within glyph_of set_of figures_in bounds_in extreme_in point_in is_point entry_in point_at allb mean_in mean_of on_grid is_whole nearest rounded agrees_alone handed_agrees agrees row_agrees is_nan of_bits to_bits pick
prints-a-card = refl

-- "c 0 1 1", "v 1:5 4014000000000000": the set 1:5 has the sum 5.0
pub prints-a-sum : value_lines 0 1 1 example.sets (0x4014_0000_0000_0000 ∷ [])
    ≡ 99 ∷ 32 ∷ 48 ∷ 32 ∷ 49 ∷ 32 ∷ 49 ∷ 10 ∷ 118 ∷ 32 ∷ 49 ∷ 58 ∷ 53 ∷ 32 ∷ 52 ∷ 48 ∷ 49 ∷ 52 ∷ 48 ∷ 48 ∷ 48 ∷ 48 ∷ 48 ∷ 48 ∷ 48 ∷ 48 ∷ 48 ∷
    48 ∷ 48 ∷ 48 ∷ 10 ∷ []
unfolding value_lines collection_head values_from value_at value_line line joined each listed attribute_field set_field decimal digits_within glyph_of hex_digits set_of pick
prints-a-sum = refl
