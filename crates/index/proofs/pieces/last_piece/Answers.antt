-- `index::pieces::last_piece` meets its contract: an entry that is none of the first 63 is the last. Assumes nothing.
use mathlib.Core.Path.{◌≡◌, refl, subst}
use Prim.Native.Nat.{ℕ}
use native.Mathlib.Omega.{arith}
use lib.ListN.{get_or}
use Rattle.laws.proofs.NoneOf.{past}
use Rattle.index.specs.Pieces.{pieces}
use Rattle.index.proofs.pieces.last_piece.Goals as goal

pub returns : goal.returns
returns c = subst (λ (q : ℕ). get_or pieces 63 0 ≡ get_or pieces q 0) last refl
  where
    last : 63 ≡ c.args.p
    last = omega (arith, past 63 c.args.p c.requires.none_of)
