-- A natural number for each float that is no NaN, in the order of the floats: `lt` is `ltb` of the keys. Assumes nothing.
use mathlib.Core.Path.{◌≡◌, refl, sym, ap, ◌∙◌, subst}
use Prim.Native.Nat.{ℕ, zero, suc, ◌+◌, ◌-◌, ◌*◌, ◌/◌, ◌%◌, ◌^◌, ◌≤◌, ◌<◌}
use native.Mathlib.Nat.{mul_assoc, mul_comm, mul_right_comm, mul-pos, zero-mul, zero-div, mul-div_cancel, mul-one, div-lt_iff_lt-mul, lt_of_not-le, not-le_of_lt, mul-lt-mul_of_pos_right, le_of_suc-le-suc}
use native.Mathlib.Omega.{arith}
use mathlib.Core.Bool.{Bool, true, false, ◌&&◌}
use lib.IntN.{ℤ, pos, negsuc}
use lib.Dec.{T, ltb, leb, eqb, ltb→lt, leb→le, lt→ltb}
use lib.Pow.{pow-add, pow_pos, pow-lt}
use lib.Ieee.{Float, nan, inf, fin, Format, prec, emax, low, up, down, below, lt, fits}
use lib.Ieee.Fits.{down_pos, and_l, and_r}
use lib.Ieee.Digits.{back}
use Rattle.laws.specs.Pick.{pick}
use Rattle.floats.proofs.Fractions.{ltb_iff, ltb-same, plus-same}

-- a magnitude in units of the format's smallest value, and what is above all of them
abbrev pub units_of : Format → ℕ → ℤ → ℕ
units_of f m e = m * up e * 2 ^ low f / down e

unfoldable pub big : Format → ℕ
big f = 2 ^ (low f + suc (emax f))

unfoldable pub key : Format → Float → ℕ
key f nan = 0
key f (inf true) = 0
key f (inf false) = big f + big f
key f (fin true m e) = big f - units_of f m e
key f (fin false m e) = big f + units_of f m e

-- ---- what `fits` says of an m above 0
pub exponent : (f : Format) (s : Bool) (m : ℕ) (e : ℤ) → T (fits f (fin s (suc m) e)) → down e ≤ 2 ^ low f
unfolding fits
exponent f s m e t = leb→le (down e) (2 ^ low f)
    (and_r (eqb (suc m % 2) 1 && ltb (suc m) (2 ^ prec f)) (leb (down e) (2 ^ low f))
    (and_l (eqb (suc m % 2) 1 && ltb (suc m) (2 ^ prec f) && leb (down e) (2 ^ low f)) (ltb (suc m * up e) (2 ^ suc (emax f) * down e)) t))

in-range : (f : Format) (s : Bool) (m : ℕ) (e : ℤ) → T (fits f (fin s (suc m) e)) → suc m * up e < 2 ^ suc (emax f) * down e
unfolding fits
in-range f s m e t = ltb→lt (suc m * up e) (2 ^ suc (emax f) * down e)
    (and_r (eqb (suc m % 2) 1 && ltb (suc m) (2 ^ prec f) && leb (down e) (2 ^ low f)) (ltb (suc m * up e) (2 ^ suc (emax f) * down e)) t)

-- 2 ^ e divides 2 ^ low
divides : (f : Format) (e : ℤ) → down e ≤ 2 ^ low f → (q : ℕ) × (2 ^ low f ≡ q * down e)
divides f (pos k) h = (2 ^ low f, sym (mul-one (2 ^ low f)))
divides f (negsuc k) h =
    let l : suc k ≤ low f = le_of_suc-le-suc (lt_of_not-le (λ (g : suc (low f) ≤ suc k). not-le_of_lt (pow-lt g) h)) in
    (2 ^ (low f - suc k), ap (λ (x : ℕ). 2 ^ x) (sym (back (low f) (suc k) l)) ∙ pow-add 2 (low f - suc k) (suc k))

-- a value that fits is a whole number of units
pub exact : (f : Format) (s : Bool) (m : ℕ) (e : ℤ) → T (fits f (fin s m e)) → units_of f m e * down e ≡ m * up e * 2 ^ low f
exact f s zero e t =
    let v : 0 * up e * 2 ^ low f ≡ 0 = ap (λ (x : ℕ). x * 2 ^ low f) (zero-mul (up e)) ∙ zero-mul (2 ^ low f) in
    ap (λ (x : ℕ). x / down e * down e) v ∙ ap (λ (x : ℕ). x * down e) (zero-div (down e)) ∙ zero-mul (down e) ∙ sym v
exact f s (suc m) e t =
    let d = divides f e (exponent f s m e t) in
    let v : suc m * up e * 2 ^ low f ≡ suc m * up e * d.0 * down e = ap (λ (x : ℕ). suc m * up e * x) d.1 ∙ sym (mul_assoc (suc m * up e) d.0 (down e)) in
    ap (λ (x : ℕ). x / down e * down e) v ∙ ap (λ (x : ℕ). x * down e) (mul-div_cancel (suc m * up e * d.0) (down_pos e)) ∙ sym v

pub small : (f : Format) (s : Bool) (m : ℕ) (e : ℤ) → T (fits f (fin s m e)) → units_of f m e < big f
unfolding big
small f s zero e t = subst (λ (x : ℕ). x < 2 ^ (low f + suc (emax f))) (sym (ap (λ (x : ℕ). x / down e) (ap (λ (x : ℕ). x * 2 ^ low f) (zero-mul (up e)) ∙ zero-mul (2 ^ low f)) ∙ zero-div (down e))) (pow_pos (low f + suc (emax f)))
small f s (suc m) e t = (div-lt_iff_lt-mul (down_pos e)).1
    (subst (λ (x : ℕ). suc m * up e * 2 ^ low f < x)
    (mul_right_comm (2 ^ suc (emax f)) (down e) (2 ^ low f) ∙ ap (λ (x : ℕ). x * down e) (mul_comm (2 ^ suc (emax f)) (2 ^ low f) ∙ sym (pow-add 2 (low f) (suc (emax f)))))
    (mul-lt-mul_of_pos_right (in-range f s m e t) (pow_pos (low f))))

-- ---- the order
shift-up : (g a b : ℕ) → ltb a b ≡ ltb (g + a) (g + b)
shift-up g a b = ltb_iff a b (g + a) (g + b) (λ h. omega arith) (λ h. omega arith)

shift-down : (g a b : ℕ) → a < g → b < g → ltb b a ≡ ltb (g - a) (g - b)
shift-down g a b p q = ltb_iff b a (g - a) (g - b) (λ h. omega arith) (λ h. omega arith)

apart : (g a b : ℕ) → a < g → ltb 0 (a + b) ≡ ltb (g - a) (g + b)
apart g a b p = ltb_iff 0 (a + b) (g - a) (g + b) (λ h. omega arith) (λ h. omega arith)

ltb_no : (p q : ℕ) → q ≤ p → false ≡ ltb p q
ltb_no p q h = go (ltb p q) (ltb→lt p q)
  where
    never : p < q → ⊥
    never l = omega arith

    go : (b : Bool) → (T b → p < q) → false ≡ b
    go true k = absurd (never (k tt))
    go false k = refl

ltb_yes : (p q : ℕ) → p < q → true ≡ ltb p q
ltb_yes p q h = go (ltb p q) (lt→ltb p q h)
  where
    go : (b : Bool) → T b → true ≡ b
    go true t = refl
    go false t = absurd t

down-up : (g a b : ℕ) → g - b ≤ g + a
down-up g a b = omega arith

signs : (s t : Bool) (A B C a b c g : ℕ) → 0 < C → 0 < c → A * c ≡ a * C → B * c ≡ b * C → a < g → b < g
    → below s A t B ≡ ltb (pick s (g - a) (g + a)) (pick t (g - b) (g + b))
unfolding pick
signs false false A B C a b c g P p h k x y = ltb-same A B C a b c P p h k ∙ shift-up g a b
signs false true A B C a b c g P p h k x y = ltb_no (g + a) (g - b) (down-up g a b)
signs true false A B C a b c g P p h k x y =
    ltb-same 0 (A + B) C 0 (a + b) c P p (zero-mul c ∙ sym (zero-mul C)) (plus-same A B C a b c P p h k) ∙ apart g a b x
signs true true A B C a b c g P p h k x y = ltb-same B A C b a c P p k h ∙ shift-down g a b x y

pub key-fin : (f : Format) (s : Bool) (m : ℕ) (e : ℤ) → key f (fin s m e) ≡ pick s (big f - units_of f m e) (big f + units_of f m e)
unfolding key pick
key-fin f true m e = refl
key-fin f false m e = refl

-- the two magnitudes over one denominator
pub left_units : (f : Format) (s : Bool) (m : ℕ) (e d : ℤ) → T (fits f (fin s m e)) → m * up e * down d * 2 ^ low f ≡ units_of f m e * (down e * down d)
left_units f s m e d t = mul_right_comm (m * up e) (down d) (2 ^ low f) ∙ ap (λ (x : ℕ). x * down d) (sym (exact f s m e t)) ∙ mul_assoc (units_of f m e) (down e) (down d)

pub right_units : (f : Format) (s : Bool) (n : ℕ) (d e : ℤ) → T (fits f (fin s n d)) → n * up d * down e * 2 ^ low f ≡ units_of f n d * (down e * down d)
right_units f s n d e t = left_units f s n d e t ∙ ap (λ (x : ℕ). units_of f n d * x) (mul_comm (down d) (down e))

lt-fin : (f : Format) (s : Bool) (m : ℕ) (e : ℤ) (t : Bool) (n : ℕ) (d : ℤ) → T (fits f (fin s m e)) → T (fits f (fin t n d)) → lt (fin s m e) (fin t n d) ≡ ltb (key f (fin s m e)) (key f (fin t n d))
unfolding lt
lt-fin f s m e t n d p q =
    signs s t (m * up e * down d) (n * up d * down e) (down e * down d) (units_of f m e) (units_of f n d) (2 ^ low f) (big f)
    (mul-pos (down_pos e) (down_pos d)) (pow_pos (low f)) (left_units f s m e d p) (right_units f t n d e q) (small f s m e p) (small f t n d q)
    ∙ sym (ap (λ (x : ℕ). ltb x (key f (fin t n d))) (key-fin f s m e) ∙ ap (ltb (pick s (big f - units_of f m e) (big f + units_of f m e))) (key-fin f t n d))

-- no NaN, and it fits
abbrev pub Ok : Format → Float → Type 0
Ok f nan = ⊥
Ok f (inf s) = Unit {0}
Ok f (fin s m e) = T (fits f (fin s m e))

pub big-pos : (f : Format) → 0 < big f
unfolding big
big-pos f = pow_pos (low f + suc (emax f))

-- a finite value's key lies between the infinities'
pub key_above : (f : Format) (s : Bool) (m : ℕ) (e : ℤ) → T (fits f (fin s m e)) → 0 < key f (fin s m e)
unfolding key
key_above f true m e t = go (big f) (units_of f m e) (small f true m e t)
  where
    go : (g a : ℕ) → a < g → 0 < g - a
    go g a h = omega arith
key_above f false m e t = go (big f) (units_of f m e) (big-pos f)
  where
    go : (g a : ℕ) → 0 < g → 0 < g + a
    go g a h = omega arith

pub key_below : (f : Format) (s : Bool) (m : ℕ) (e : ℤ) → T (fits f (fin s m e)) → key f (fin s m e) < big f + big f
unfolding key
key_below f true m e t = go (big f) (units_of f m e) (small f true m e t)
  where
    go : (g a : ℕ) → a < g → g - a < g + g
    go g a h = omega arith
key_below f false m e t = go (big f) (units_of f m e) (small f false m e t)
  where
    go : (g a : ℕ) → a < g → g + a < g + g
    go g a h = omega arith

twice-pos : (g : ℕ) → 0 < g → 0 < g + g
twice-pos g h = omega arith

le-self : (n : ℕ) → n ≤ n
le-self n = omega arith

none-le : (n : ℕ) → 0 ≤ n
none-le n = omega arith

weaken : (a b : ℕ) → a < b → a ≤ b
weaken a b h = omega arith

-- `lt` IS THE ORDER OF THE KEYS
pub lt-key : (f : Format) (x y : Float) → Ok f x → Ok f y → lt x y ≡ ltb (key f x) (key f y)
unfolding lt key
lt-key f nan y p q = absurd p
lt-key f (inf s) nan p q = absurd q
lt-key f (fin s m e) nan p q = absurd q
lt-key f (inf true) (inf true) p q = ltb_no 0 0 (le-self 0)
lt-key f (inf true) (inf false) p q = ltb_yes 0 (big f + big f) (twice-pos (big f) (big-pos f))
lt-key f (inf false) (inf true) p q = ltb_no (big f + big f) 0 (none-le (big f + big f))
lt-key f (inf false) (inf false) p q = ltb_no (big f + big f) (big f + big f) (le-self (big f + big f))
lt-key f (inf true) (fin t n d) p q = ltb_yes 0 (key f (fin t n d)) (key_above f t n d q)
lt-key f (inf false) (fin t n d) p q = ltb_no (big f + big f) (key f (fin t n d)) (weaken (key f (fin t n d)) (big f + big f) (key_below f t n d q))
lt-key f (fin s m e) (inf true) p q = ltb_no (key f (fin s m e)) 0 (none-le (key f (fin s m e)))
lt-key f (fin s m e) (inf false) p q = ltb_yes (key f (fin s m e)) (big f + big f) (key_below f s m e p)
lt-key f (fin s m e) (fin t n d) p q = lt-fin f s m e t n d p q

-- no key is above +inf's
pub key-le : (f : Format) (x : Float) → Ok f x → key f x ≤ big f + big f
unfolding key
key-le f nan p = absurd p
key-le f (inf true) p = none-le (big f + big f)
key-le f (inf false) p = le-self (big f + big f)
key-le f (fin s m e) p = weaken (key f (fin s m e)) (big f + big f) (key_below f s m e p)
