-- Fractions of whole numbers, with their order, sums, products and powers.
use Rattle.std.specs.Prelude.{◌≡◌, ℕ, zero, suc, ◌*◌, ◌<◌, ℤ, pos, negsuc, neg_ℤ, ◌+ℤ◌, ◌*ℤ◌, ◌≤ℤ◌, ◌<ℤ◌, ◌↔◌}
use Rattle.std.specs.declared.cmp.Ordering.{Ordering}
use Rattle.std.specs.declared.cmp.Ordering.TheVariants.{Less, Equal, Greater}
use Rattle.std.proofs.Math.Nat.{mul-pos, zero-lt-suc}
use Rattle.std.proofs.Common.{lit<}

-- the fraction num / den
pub record Fraction : Type 0 where
  pub num : ℤ
  pub den : ℕ
  pub positive : 0 < den

-- x is at most y
infix 50 ◌≤ℚ◌
pub record ◌≤ℚ◌ (x y : Fraction) : Type 0 where
  pub crossed : (x.num *ℤ pos y.den) ≤ℤ (y.num *ℤ pos x.den)

-- x is below y
infix 50 ◌<ℚ◌
pub record ◌<ℚ◌ (x y : Fraction) : Type 0 where
  pub crossed : (x.num *ℤ pos y.den) <ℤ (y.num *ℤ pos x.den)

-- x and y are the same number
infix 50 ◌≈◌
pub record ◌≈◌ (x y : Fraction) : Type 0 where
  pub crossed : x.num *ℤ pos y.den ≡ y.num *ℤ pos x.den

-- x is the number a / b, for b above 0
pub record IsRatio (a b : ℤ) (x : Fraction) : Type 0 where
  pub crossed : x.num *ℤ b ≡ a *ℤ pos x.den

-- x + y
infixl 60 ◌+ℚ◌
abbrev pub ◌+ℚ◌ : Fraction → Fraction → Fraction
x +ℚ y = record { num = x.num *ℤ pos y.den +ℤ y.num *ℤ pos x.den; den = x.den * y.den; positive = mul-pos x.positive y.positive }

-- -x
abbrev pub neg_ℚ : Fraction → Fraction
neg_ℚ x = record { num = neg_ℤ x.num; den = x.den; positive = x.positive }

-- x - y
infixl 60 ◌-ℚ◌
abbrev pub ◌-ℚ◌ : Fraction → Fraction → Fraction
x -ℚ y = x +ℚ neg_ℚ y

-- x * y
infixl 70 ◌*ℚ◌
abbrev pub ◌*ℚ◌ : Fraction → Fraction → Fraction
x *ℚ y = record { num = x.num *ℤ y.num; den = x.den * y.den; positive = mul-pos x.positive y.positive }

-- x * m / n
abbrev pub times_ℚ : (x : Fraction) (m n : ℕ) → 0 < n → Fraction
times_ℚ x m n above = record { num = x.num *ℤ pos m; den = x.den * n; positive = mul-pos x.positive above }

-- n / 1
abbrev pub whole : ℕ → Fraction
whole n = record { num = pos n; den = 1; positive = lit< tt }

-- 1 / n
abbrev pub part : (n : ℕ) → 0 < n → Fraction
part n above = record { num = pos 1; den = n; positive = above }

-- x^n
unfoldable pub power : Fraction → ℕ → Fraction
power x zero = whole 1
power x (suc n) = power x n *ℚ x

-- d / num, and 0 where num is 0
abbrev pub inverse_of : ℤ → ℕ → Fraction
inverse_of (pos zero) d = whole 0
inverse_of (pos (suc n)) d = record { num = pos d; den = suc n; positive = zero-lt-suc n }
inverse_of (negsuc n) d = record { num = neg_ℤ (pos d); den = suc n; positive = zero-lt-suc n }

-- 1 / x, and 0 where x is 0
abbrev pub inverse : Fraction → Fraction
inverse x = inverse_of x.num x.den

-- x / y, and 0 where y is 0
infixl 70 ◌/ℚ◌
abbrev pub ◌/ℚ◌ : Fraction → Fraction → Fraction
x /ℚ y = x *ℚ inverse y

-- o is the order of x and y
pub record IsOrder (o : Ordering) (x y : Fraction) : Type 0 where
  pub less : (o ≡ Less) ↔ (x <ℚ y)
  pub equal : (o ≡ Equal) ↔ (x ≈ y)
  pub greater : (o ≡ Greater) ↔ (y <ℚ x)
