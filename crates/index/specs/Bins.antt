-- Levels and bins: scales and bucket indices without signs. Assumes nothing.
-- The level is the scale + 10; the bin is the index + 2 ^ (level + 1), which is never negative, and halves where the scale falls by one.
use Rattle.std.specs.Prelude.{Bool, ℕ, zero, suc, ◌+◌, ◌-◌, ◌*◌, ◌/◌, ◌^◌, ltb, ℤ, pos, ◌-ℤ◌}
use Rattle.laws.specs.Counting.{bit}

-- the greatest level, that of scale 10
abbrev pub finest : ℕ
finest = 20

-- how many of 0, 1, .., n - 1 pass a test
unfoldable pub how_many : (ℕ → Bool) → ℕ → ℕ
how_many p zero = 0
how_many p (suc n) = bit (p n) + how_many p n

-- the bin of the magnitude w at the finest level: how many of its buckets' upper bounds, 2 ^ ((b + 1) / 1024) units of 2 ^ -2048
-- for the bin b, lie below w
unfoldable pub finest_bin : ℕ → ℕ
finest_bin w = how_many (λ b. ltb (2 ^ (b + 1)) (w ^ 1024)) (3 * 2 ^ 20)

-- the bin at a level. Total, so that callers' definitions need no side condition: a magnitude of 0 has the bin 0, and above the finest level it
-- is the finest bin
abbrev pub bin_at : ℕ → ℕ → ℕ
bin_at level w = finest_bin w / 2 ^ (finest - level)

-- the bins of finite f64s at a level run from that of 2 ^ -1074 to that of the greatest f64, the last below `end_bin`
-- (the laws `lowest-is` and `highest-is`)
abbrev pub lowest_bin : ℕ → ℕ
lowest_bin level = 997375 / 2 ^ (finest - level)

abbrev pub end_bin : ℕ → ℕ
end_bin level = 3 * 2 ^ level

-- the scale of a level, and the index of a bin
abbrev pub scale_of : ℕ → ℤ
scale_of level = pos level -ℤ pos 10

abbrev pub index_of : ℕ → ℕ → ℤ
index_of level bin = pos bin -ℤ pos (2 ^ (level + 1))
