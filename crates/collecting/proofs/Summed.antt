-- A survey and its sums: what `collecting::Survey::sums` says of a survey, where there are sums and where there are none. Assumes nothing.
use mathlib.Core.Path.{◌≡◌, refl, sym, ap}
use mathlib.Core.Bool.{Bool, true, false}
use Rattle.std.specs.Prelude.{Option, Some, None}
use Rattle.laws.proofs.Cases.{true-not-false}
use Rattle.collecting.specs.Slots.{unsound, sound_of}
use Rattle.collecting.specs.declared.Sums.{Sums}
use Rattle.collecting.specs.declared.Survey.{Survey}

if-true : (b : Bool) → (b ≡ false → ⊥) → b ≡ true
if-true true n = refl
if-true false n = absurd (n refl)

if-false : (b : Bool) → (b ≡ true → b ≡ false) → b ≡ false
if-false true f = f refl
if-false false f = refl

abbrev any : Option Sums → Bool
any None = false
any (Some q) = true

-- sums are those of the survey
pub sums-are : (t : Survey) (q : Sums) → (t.sound ≡ true → sound_of q ≡ t) → (t.sound ≡ false → Some q ≡ None) → sound_of q ≡ t
sums-are t q g h = g (if-true t.sound (λ e. true-not-false (ap any (h e))))

-- and where there are none the survey is not sound
pub none-unsound : (t : Survey) → (t.sound ≡ true → unsound ≡ t) → t.sound ≡ false
none-unsound t g = if-false t.sound (λ e. sym (ap (λ (v : Survey). v.sound) (g e)))
