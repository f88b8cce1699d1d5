-- BETWEEN OUR OWN CRATES: serves inner contracts and proofs; nobody needs it to believe the public calls or the theorems.
-- Bins and their signed indices between functions: the definitions of the crate's own functions. Assumes nothing.
use Rattle.std.specs.Prelude.{ℕ, Bool, Option, Some, None, ℤ}
use Rattle.index.specs.declared.Bin.{Bin}
use Rattle.index.specs.declared.Bin.TheVariants.{NoLevel, NotFinite, Zero, At}
use Rattle.index.specs.declared.Bin.TheVariants as B
use Rattle.index.specs.declared.signed.Index.{Index}
use Rattle.index.specs.declared.signed.Index.TheVariants as X
use Rattle.index.specs.Signed.{index_answer}

-- the bin alone, 0 where there is none
abbrev pub bin_or_zero : Bin → ℕ
bin_or_zero NoLevel = 0
bin_or_zero NotFinite = 0
bin_or_zero Zero = 0
bin_or_zero (At negative bin) = bin

-- a bin's answer with the index in place of the bin
abbrev pub signed_at : Bool → Option ℤ → Index
signed_at negative None = X.NoScale
signed_at negative (Some index) = X.At negative index

abbrev pub bin_index : ℕ → Bin → Index
bin_index level B.NoLevel = X.NoScale
bin_index level B.NotFinite = X.NotFinite
bin_index level B.Zero = X.Zero
bin_index level (B.At negative bin) = signed_at negative (index_answer level bin)
