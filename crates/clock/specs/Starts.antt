-- What collections make of the clock. Assumes nothing.
use Rattle.std.specs.Prelude.{ℕ, eqb}
use Rattle.laws.specs.Pick.{pick}
use Rattle.clock.specs.declared.Clock.{Clock}
use Rattle.clock.specs.declared.Turned.{Turned}

-- the clock afterwards, and the start that was handed out
abbrev pub gave : ℕ → Clock → Turned
gave start clock = record { clock = clock; start = start }

-- "Delta hands out the held start time and holds the current one", also one "that goes back";
-- answered with a number other than 0 it was refused, and the clock is as it was
abbrev pub turned : Clock → ℕ → ℕ → Turned
turned c answer time = gave c.start (record { start = pick (eqb answer 0) time c.start })
