-- THE ROUNDING RULE of the blade card, by itself: where a magnitude that lies halfway between q and q + 1 goes. Assumes nothing.
use Rattle.std.specs.Prelude.{ℕ, ◌+◌}

-- request L2: "a half going away from zero"
unfoldable pub half : ℕ → ℕ
half q = q + 1
