-- How large and how wide an enclosure is: its width is bounded by a line in d, the width of the span
-- that it stands for.
use Rattle.std.specs.Prelude.{ℕ, zero, suc, ◌+◌, ◌*◌, ◌/◌, ◌^◌, ℤ, pos, neg_ℤ, ◌-ℤ◌, ◌*ℤ◌, ◌≤ℤ◌}

-- widths are counted in parts of 2^-20 of a unit in the last place
abbrev pub parts : ℕ
parts = 2 ^ 20

-- the greatest magnitude, and the width as base + per * d parts
pub record Size : Type 0 where
  pub most : ℕ
  pub base : ℕ
  pub per : ℕ

-- no number from lo to hi is beyond m, and the width is at most a + b * d parts
pub record Sized (m a b d : ℕ) (lo hi : ℤ) : Type 0 where
  pub low : neg_ℤ (pos m) ≤ℤ lo
  pub high : hi ≤ℤ pos m
  pub width : ((hi -ℤ lo) *ℤ pos parts) ≤ℤ pos (a + b * d)

abbrev pub SizedBy : Size → ℕ → ℤ → ℤ → Type 0
SizedBy t d lo hi = Sized t.most t.base t.per d lo hi

-- n * m^(n - 1)
unfoldable pub slope : ℕ → ℕ → ℕ
slope zero m = 0
slope (suc n) m = slope n m * m + m ^ n

-- the magnitude and the width of a product at the scale D
abbrev pub product_most : ℕ → ℕ → ℕ → ℕ
product_most D m n = m * n / D + 1

abbrev pub product_line : ℕ → ℕ → ℕ → ℕ → ℕ → ℕ
product_line D m a n b = (m * b + n * a) / D + 1

-- the magnitude and the width of the n-th power at the scale D
abbrev pub power_most : ℕ → ℕ → ℕ → ℕ
power_most D n m = m ^ n * D / D ^ n + 1 + n

abbrev pub power_line : ℕ → ℕ → ℕ → ℕ → ℕ
power_line D n m a = slope n m * a * D / D ^ n + 1

abbrev pub product_size : ℕ → Size → Size → Size
product_size D s t = record {
  most = product_most D s.most t.most;
  base = product_line D s.most s.base t.most t.base + 2 * parts;
  per = product_line D s.most s.per t.most t.per;
}

abbrev pub power_size : ℕ → ℕ → Size → Size
power_size D n s = record {
  most = power_most D n s.most;
  base = power_line D n s.most s.base + 2 * n * parts;
  per = power_line D n s.most s.per;
}

-- at a coarser scale, by the factor n
abbrev pub down_size : ℕ → Size → Size
down_size n s = record { most = s.most / n + 1; base = s.base / n + 1 + 2 * parts; per = s.per / n + 1 }

-- at a finer scale, by the factor n
abbrev pub up_size : ℕ → Size → Size
up_size n s = record { most = s.most * n; base = s.base * n; per = s.per * n }

abbrev pub sum_size : Size → Size → Size
sum_size s t = record { most = s.most + t.most; base = s.base + t.base; per = s.per + t.per }

-- an enclosure w units wide of a number whose magnitude is at most m
abbrev pub near_size : ℕ → ℕ → Size
near_size m w = record { most = m + w; base = w * parts; per = 0 }

-- c 0 + z * (c 1 + z * (c 2 + ..)) for n numbers c k of the sizes f k, at the scale D
unfoldable pub horner_size : ℕ → Size → (ℕ → Size) → ℕ → Size
horner_size D z f zero = record { most = 0; base = 0; per = 0 }
horner_size D z f (suc n) = sum_size (f 0) (product_size D z (horner_size D z (λ k. f (suc k)) n))
