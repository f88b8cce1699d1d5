-- What is read of a block of 65536 bytes into a line of 256. A line ends at a newline, the byte 10. A byte is read by `get_or` and written by
-- `set`, which say nothing of a store's length. Assumes nothing.
use Rattle.std.specs.Prelude.{ℕ, zero, suc, min, ◌+◌, ◌-◌, ◌≤◌, ◌<◌, ◌≡◌, Bool, true, false, List, ltb, eqb, get_or, set}
use Rattle.laws.specs.Pick.{pick}
use Rattle.lines.specs.declared.input.Ports.{Ports}

-- how far a program has read: within a block and a line
abbrev pub Within : ℕ → ℕ → ℕ → Type 0
Within at end len = (at ≤ end) × (end ≤ 65536) × (len ≤ 256)

-- whether one of the n bytes from a place on is a newline
unfoldable pub newline_in : List ℕ → ℕ → ℕ → Bool
newline_in bs from zero = false
newline_in bs from (suc n) = pick (eqb (get_or bs (from + n) 0) 10) true (newline_in bs from n)

-- where the first newline stands among a block's bytes from a place to an end; the end where there is none
unfoldable pub first_newline : List ℕ → ℕ → ℕ → ℕ
first_newline bs from zero = from
first_newline bs from (suc n) = pick (eqb (get_or bs from 0) 10) from (first_newline bs (from + 1) n)

unfoldable pub newline_of : List ℕ → ℕ → ℕ → ℕ
newline_of bs from end = first_newline bs from (end - from)

-- a line with n bytes of the block, from a place on, put behind its first len
unfoldable pub copied : List ℕ → ℕ → List ℕ → ℕ → ℕ → List ℕ
copied line len bs from zero = line
copied line len bs from (suc n) = set (copied line len bs from n) (len + n) (get_or bs (from + n) 0)

-- where the bytes to be read start and end, and how many bytes of the line are there
abbrev pub end_of : Ports → ℕ
end_of p = min p.end 65536

abbrev pub at_of : Ports → ℕ
at_of p = min p.at (end_of p)

abbrev pub len_of : Ports → ℕ
len_of p = min p.len 256

-- where the line ends among the block's bytes, and how many bytes it gets of them: no more than it has room for
abbrev pub stop_of : Ports → List ℕ → ℕ
stop_of p bs = newline_of bs (at_of p) (end_of p)

abbrev pub count_of : Ports → List ℕ → ℕ
count_of p bs = min (stop_of p bs - at_of p) (256 - len_of p)

-- how far a program has read when it has gone on with the line to its newline, or to the block's end where there is none
unfoldable pub taken : Ports → List ℕ → Ports
taken p bs =
    pick
    (ltb (stop_of p bs) (end_of p))
    (record { at = stop_of p bs + 1; end = end_of p; len = len_of p + count_of p bs; ended = true; over = false; waiting = p.waiting })
    (record { at = end_of p; end = end_of p; len = len_of p + count_of p bs; ended = false; over = false; waiting = p.waiting })

-- the line then
unfoldable pub taken_line : Ports → List ℕ → List ℕ → List ℕ
taken_line p bs line = copied line (len_of p) bs (at_of p) (count_of p bs)

-- before a line's first byte
abbrev pub fresh : Ports → Ports
fresh p = record { at = p.at; end = p.end; len = 0; ended = false; over = false; waiting = p.waiting }

-- the next line, where its newline stands in the block already: it is read from there, and the block stays
unfoldable pub NextLine : Ports → List ℕ → List ℕ → Ports → List ℕ → List ℕ → Type 0
NextLine p bs line r bs' line' = stop_of p bs < end_of p → (r ≡ taken (fresh p) bs) × (line' ≡ taken_line (fresh p) bs line) × (bs' ≡ bs)
