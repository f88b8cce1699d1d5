-- What lines ask for, computed: document 01's run, and lines that can't be read. Assumes nothing.
use mathlib.Core.Path.{◌≡◌, refl}
use mathlib.Core.Bool.{true, false}
use mathlib.Core.List.{List, [], ◌∷◌}
use Prim.Native.Nat.{ℕ}
use lib.IntN.{pos}
use Rattle.laws.specs.Pick.{pick}
use Rattle.text.specs.Numbers.{digit_of, spelled_from, ill_led, decimal_of, bits_of, has_minus, signed_of}
use Rattle.text.specs.Fields.{space, spaces_of, until, start_of, field_of}
use Rattle.std.specs.Prelude.{Some, None}
use Rattle.lines.specs.Spelled.{word_of, attribute_of, parts, attributes_of, is_dash, spelled, next, put, told, kept}
use Rattle.gauge_lines.specs.declared.fields.Call.TheVariants as C
use Rattle.gauge_lines.specs.Lines.{with_sign, settings_of, parted, board_of, attributes_in, time_of, letter_of, by_letter, call_of}

-- "e 4 10 2 100"
abbrev starts : List ℕ
starts = 101 ∷ 32 ∷ 52 ∷ 32 ∷ 49 ∷ 48 ∷ 32 ∷ 50 ∷ 32 ∷ 49 ∷ 48 ∷ 48 ∷ []

-- "e 4 -0 2 100", "e 4 10 31 100"
abbrev minus-zero : List ℕ
minus-zero = 101 ∷ 32 ∷ 52 ∷ 32 ∷ 45 ∷ 48 ∷ 32 ∷ 50 ∷ 32 ∷ 49 ∷ 48 ∷ 48 ∷ []

abbrev above : List ℕ
above = 101 ∷ 32 ∷ 52 ∷ 32 ∷ 49 ∷ 48 ∷ 32 ∷ 51 ∷ 49 ∷ 32 ∷ 49 ∷ 48 ∷ 48 ∷ []

settings : (settings_of starts ≡ Some (record { size = 4; scale = pos 10; limit = 2; start = 100 }))
    × (settings_of minus-zero ≡ None) × (settings_of above ≡ None)
unfolding settings_of spaces_of space field_of start_of until decimal_of ill_led spelled_from digit_of signed_of has_minus with_sign pick
settings = (refl, refl, refl)

-- "r 3FF0000000000000 1:5"
abbrev records : List ℕ
records = 114 ∷ 32 ∷ 51 ∷ 70 ∷ 70 ∷ 48 ∷ 48 ∷ 48 ∷ 48 ∷ 48 ∷ 48 ∷ 48 ∷ 48 ∷ 48 ∷ 48 ∷ 48 ∷ 48 ∷ 48 ∷ 32 ∷ 49 ∷ 58 ∷ 53 ∷ []

board : (board_of records ≡ Some (record { bits = 0x3ff0_0000_0000_0000; many = 1 }))
    × (attributes_in records ((0 ∷ 0 ∷ []) ∷ []) ≡ (1 ∷ 5 ∷ []) ∷ [])
unfolding board_of attributes_in parted bits_of spelled_from ill_led decimal_of digit_of spelled is_dash attributes_of attribute_of word_of parts until told kept next put pick
board = (refl, refl)

-- "c 200"
abbrev collects : List ℕ
collects = 99 ∷ 32 ∷ 50 ∷ 48 ∷ 48 ∷ []

time : time_of collects ≡ Some 200
unfolding time_of spaces_of space field_of start_of until decimal_of ill_led spelled_from digit_of pick
time = refl

-- before a map is running only `e` is a call; no byte is no line only where the input is over
calls : (call_of starts false false ≡ C.Start) × (call_of records false false ≡ C.Unread) × (call_of records true false ≡ C.Record)
    × (call_of collects true false ≡ C.Collect) × (call_of [] true false ≡ C.Unread) × (call_of [] true true ≡ C.None)
unfolding call_of letter_of by_letter pick
calls = (refl, refl, refl, refl, refl, refl)
