-- The scale of a number 128 above it, by the bin of the finest level that lies as far above its own. Assumes nothing.
use Prim.Native.Nat.{ℕ, ◌+◌, ◌%◌, ◌<◌}
use mathlib.Core.Path.{◌≡◌, ap, ◌∙◌}
use native.Mathlib.Omega.{arith}
use lib.IntN.{ℤ, pos}
use Rattle.laws.proofs.Differences.{same-sub}
use Rattle.index.specs.Bins.{finest}
use Rattle.index.specs.Signed.{index_answer}
use Rattle.std.specs.Prelude.{Option, Some, None}
use Rattle.index.proofs.SignedCases.{index_is}
use Rattle.replay_exponential.specs.Followed.{scale_in}

byte : (n : ℕ) → n % 256 < 256
byte n = omega arith

above : (k : ℕ) → k < 256 → 2097024 + k < 3145728
above k h = omega (arith, h)

back : (k : ℕ) → 2097024 + k + 128 ≡ k + 2097152
back k = omega arith

scale-is : (n : ℕ) → index_answer finest (2097024 + n % 256) ≡ Some (scale_in n)
scale-is n =
    index_is finest (2097024 + n % 256) (omega arith) (above (n % 256) (byte n))
    ∙ ap Some (same-sub (2097024 + n % 256) 2097152 (n % 256) 128 (back (n % 256)))

-- as the code reads what it found
abbrev pub scale_or : Option ℤ → ℤ
scale_or None = pos 0
scale_or (Some x) = x

uncut : (k : ℕ) → k < 256 → (2097024 + k) % 4294967296 ≡ 2097024 + k
uncut k h = omega (arith, h)

pub scale-found : (n bin : ℕ) (found : Option ℤ) → bin ≡ (2097024 + n % 256) % 4294967296 → found ≡ index_answer finest bin
    → scale_or found ≡ scale_in n
scale-found n bin found b f =
    ap scale_or (f ∙ ap (index_answer finest) (b ∙ uncut (n % 256) (byte n)) ∙ scale-is n)
