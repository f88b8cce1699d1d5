-- MANY VALUES, one after another, up to the first that is refused: what came before it stands, what comes after it is not looked at. No value, no
-- call: nothing is asked. Assumes nothing.
use Rattle.std.specs.Prelude.{ℕ, suc, List, [], ◌∷◌, eqb}
use Rattle.laws.specs.Pick.{pick}
use Rattle.rows.specs.Recording.{Recording}

-- how many were taken, the number that refused the next one (0: none was refused), and what is left
pub record Many (Left : Type 0) : Type 0 where
  pub taken : ℕ
  pub no : ℕ
  pub left : Left

-- as a contract writes it
abbrev pub many : {Left : Type 0} → ℕ → ℕ → Left → Many Left
many t n l = record { taken = t; no = n; left = l }

-- none taken; one more before
abbrev pub stopped : {Left : Type 0} → ℕ → Left → Many Left
stopped n l = record { taken = 0; no = n; left = l }

abbrev pub one_more : {Left : Type 0} → Many Left → Many Left
one_more r = record { taken = suc r.taken; no = r.no; left = r.left }

-- THE DEFINITION: f is what one value makes of what is there, with its number, 0 where it took the value
unfoldable pub each : {A Left : Type 0} → (Left → A → Recording Left) → Left → List A → Many Left
each f l [] = stopped 0 l
each f l (v ∷ vs) =
    let o = f l v in
    pick (eqb o.no 0) (one_more (each f o.cells vs)) (stopped o.no o.cells)
