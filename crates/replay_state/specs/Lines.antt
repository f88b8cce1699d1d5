-- BETWEEN OUR OWN CRATES: serves inner contracts and proofs; nobody needs it to believe the public calls or the theorems.
-- The state after a line by its letter, for the crate of each kind, from those after its calls. Assumes nothing.
use Rattle.std.specs.Prelude.{ℕ, Bool, ◌||◌, eqb}
use Rattle.laws.specs.Pick.{pick}
use Rattle.replay_state.specs.declared.State.{State}

-- by a line's letter, after `n`, `r`, `h`, and `b` or `u`; any other leaves the state
unfoldable pub by_letter : ℕ → State → State → State → State → State → State
by_letter l n r h b s =
    pick (eqb l 110) n (pick (eqb l 114) r (pick (eqb l 104) h (pick (eqb l 98 || eqb l 117) b s)))

-- a line that is not of the crate's kinds leaves the state too
unfoldable pub followed_by : Bool → ℕ → State → State → State → State → State → State
followed_by mine l n r h b s = pick mine (by_letter l n r h b s) s

-- after a delta or a cumulative collection, as configured; a line that is no `c`, or is not of the crate's kinds, leaves the state
unfoldable pub collected_as : Bool → State → State → State → State
collected_as mine s delta cumulative = pick mine (pick (eqb s.letter 99) (pick s.delta delta cumulative) s) s
