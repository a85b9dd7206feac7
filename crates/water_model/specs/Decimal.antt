-- Decimal fractions, and powers with whole exponents of either sign.
use Rattle.std.specs.Prelude.{ℕ, suc, ◌^◌, ℤ, pos, negsuc, neg_ℤ, ◌*ℤ◌}
use Rattle.std.proofs.Common.{lit<}
use native.Mathlib.Nat.{one-le-pow}
use Rattle.number_model.specs.Fraction.{Fraction, power, inverse}

-- z / 1
abbrev pub integer : ℤ → Fraction
integer z = record { num = z; den = 1; positive = lit< tt }

-- -n
abbrev pub minus : ℕ → ℤ
minus n = neg_ℤ (pos n)

-- m * 10^e
abbrev pub decimal : ℤ → ℤ → Fraction
decimal m (pos e) = record { num = m *ℤ pos (10 ^ e); den = 1; positive = lit< tt }
decimal m (negsuc e) = record { num = m; den = 10 ^ suc e; positive = one-le-pow (suc e) 10 (lit< tt) }

-- y^j, which is a power of 1 / y where j is below 0
unfoldable pub whole_power : Fraction → ℤ → Fraction
whole_power y (pos n) = power y n
whole_power y (negsuc n) = power (inverse y) (suc n)
