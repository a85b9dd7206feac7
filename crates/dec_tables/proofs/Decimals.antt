-- Decimal fractions between their rounded quotients.
use Rattle.std.proofs.Common.{◌≡◌, ℕ, suc, ◌+◌, ◌*◌, ◌/◌, ◌^◌, ◌<◌, ◌≤◌, arith, lit<, ap, sym, ◌∙◌, ℤ, pos, negsuc, neg_ℤ, ◌*ℤ◌, ◌≤ℤ◌, ◌<ℤ◌, unsigned_abs, true}
use lib.Signed.{lt_z}
use Rattle.std.proofs.lemmas.Int.{ints}
use Rattle.std.proofs.lemmas.Nat.{pow-add}
use native.Mathlib.Nat.{div-mul-le_self, lt-div-mul-add, one-le-pow, div-le_of_le-mul}
use Rattle.number_model.specs.Fraction.{◌≤ℚ◌, ◌*ℚ◌, ◌≈◌, neg_ℚ, whole}
use Rattle.number_model.specs.Enclosure.{Holds}
use Rattle.number_model.proofs.Ints.{neg-*ℤ}
use Rattle.number_model.proofs.Same.{Holds-same}
use Rattle.number_model.proofs.Enclosures.{Holds-neg}
use Rattle.water_model.specs.Decimal.{decimal}

-- ---- the condition in whole numbers
quotient_size : (m k : ℕ) (e : ℤ) → e <ℤ pos 0 → (decimal (pos m) e *ℚ whole (2 ^ k)) ≤ℚ whole (2 ^ 61) → m * 2 ^ k ≤ 2 ^ 61 * 10 ^ unsigned_abs e
quotient_size m k (pos e) below h = absurd (omega (arith, ints, below))
quotient_size m k (negsuc e) below h = omega (arith, ints, h.crossed)

pub product_size : (m k : ℕ) (e : ℤ) → pos 0 ≤ℤ e → (decimal (pos m) e *ℚ whole (2 ^ k)) ≤ℚ whole (2 ^ 61) → m * 10 ^ unsigned_abs e * 2 ^ k ≤ 2 ^ 61
product_size m k (pos e) above h = omega (arith, ints, h.crossed)
product_size m k (negsuc e) above h = absurd (omega (arith, ints, above))

quotient_range : (m k p : ℕ) → m * 2 ^ k ≤ 2 ^ 61 * 10 ^ p → m * 2 ^ k / 10 ^ p ≤ 2 ^ 61
quotient_range m k p h = div-le_of_le-mul (10 ^ p) (omega arith)

pub floor_small : (m k q : ℕ) (e : ℤ) → e <ℤ pos 0 → q ≡ m * 2 ^ k / 10 ^ unsigned_abs e → (decimal (pos m) e *ℚ whole (2 ^ k)) ≤ℚ whole (2 ^ 61) → q ≤ 2 ^ 61
floor_small m k q e below is h = rw is (quotient_range m k (unsigned_abs e) (quotient_size m k e below h))

-- ---- the enclosures
pub Holds-quotient : (s m up q : ℕ) (e : ℤ) → e <ℤ pos 0 → q ≡ m * 2 ^ (s + up) / 10 ^ unsigned_abs e → Holds s (pos q) (pos (q + 1)) (decimal (pos m) e *ℚ whole (2 ^ up))
Holds-quotient s m up q (pos e) below is = absurd (omega (arith, ints, below))
Holds-quotient s m up q (negsuc e) below is =
    let two : 2 ^ (s + up) ≡ 2 ^ s * 2 ^ up = pow-add 2 s up in
    let all : m * 2 ^ (s + up) ≡ m * (2 ^ s * 2 ^ up) = ap (λ t. m * t) two in
    let under : q * 10 ^ suc e ≤ m * 2 ^ (s + up) = rw is (div-mul-le_self (m * 2 ^ (s + up)) (10 ^ suc e)) in
    let over : m * 2 ^ (s + up) < q * 10 ^ suc e + 10 ^ suc e = rw is (lt-div-mul-add {a = m * 2 ^ (s + up)} (one-le-pow (suc e) 10 (lit< tt))) in
    record { low = record { crossed = omega (arith, ints, under, all) }; high = record { crossed = omega (arith, ints, over, all) } }

pub Holds-product : (s m up q : ℕ) (e : ℤ) → pos 0 ≤ℤ e → q ≡ m * 10 ^ unsigned_abs e * 2 ^ (s + up) → Holds s (pos q) (pos q) (decimal (pos m) e *ℚ whole (2 ^ up))
Holds-product s m up q (pos e) above is =
    let all : m * 10 ^ e * 2 ^ (s + up) ≡ m * 10 ^ e * (2 ^ s * 2 ^ up) = ap (λ t. m * 10 ^ e * t) (pow-add 2 s up) in
    record { low = record { crossed = omega (arith, ints, is, all) }; high = record { crossed = omega (arith, ints, is, all) } }
Holds-product s m up q (negsuc e) above is = absurd (omega (arith, ints, above))

neg-decimal : (k n : ℕ) (e : ℤ) → neg_ℚ (decimal (pos k) e *ℚ whole n) ≈ (decimal (neg_ℤ (pos k)) e *ℚ whole n)
neg-decimal k n (pos e) = record { crossed = ap (λ t. t *ℤ pos (1 * 1)) (sym (neg-*ℤ (pos k *ℤ pos (10 ^ e)) (pos n)) ∙ ap (λ t. t *ℤ pos n) (sym (neg-*ℤ (pos k) (pos (10 ^ e))))) }
neg-decimal k n (negsuc e) = record { crossed = ap (λ t. t *ℤ pos (10 ^ suc e * 1)) (sym (neg-*ℤ (pos k) (pos n))) }

pub Holds-neg_decimal : (s up k : ℕ) (l h : ℤ) (m e : ℤ) → m ≡ neg_ℤ (pos k) → Holds s l h (decimal (pos k) e *ℚ whole (2 ^ up)) → Holds s (neg_ℤ h) (neg_ℤ l) (decimal m e *ℚ whole (2 ^ up))
Holds-neg_decimal s up k l h m e is p = rw is (Holds-same {x = neg_ℚ (decimal (pos k) e *ℚ whole (2 ^ up))} (neg-decimal k (2 ^ up) e) (Holds-neg s l h (decimal (pos k) e *ℚ whole (2 ^ up)) p))

pub below_of : (z : ℤ) → lt_z z (pos 0) ≡ true → z <ℤ pos 0
below_of z h = grind (arith, ints)

-- a number below 0 is minus its absolute value
pub neg_abs : (z : ℤ) → z <ℤ pos 0 → z ≡ neg_ℤ (pos (unsigned_abs z))
neg_abs z h = omega (arith, ints, h)
