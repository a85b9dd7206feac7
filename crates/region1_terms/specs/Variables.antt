-- What the enclosures of the reduced variables hold, and their sizes.
use Rattle.std.specs.Prelude.{ℕ, ◌+◌, ◌-◌, ◌*◌, ◌^◌, ℤ, pos, ◌≤ℤ◌}
use Rattle.std.proofs.Common.{lit<}
use Rattle.number_model.specs.Fraction.{Fraction, ◌*ℚ◌, part, inverse}
use Rattle.number_model.specs.Enclosure.{Holds, SpanHolds}
use Rattle.water_model.specs.Water.{x_of, y_of}
use Rattle.region1_algebra.specs.Forms.{u_of, r_of}
use Rattle.enclosure_sizes.specs.Size.{Size, SizedBy, parts}

-- the temperature t nanodegrees in nanokelvin
abbrev pub nanokelvin_of : ℕ → ℕ
nanokelvin_of t = 273150000000 + t

-- 1000 y times it: y = (1386000000000000 - 1222 T) / (1000 T)
abbrev pub rest_of : ℕ → ℕ
rest_of t = 1386000000000000 - 1222 * nanokelvin_of t

-- x / 8 at p kPa
abbrev pub HoldsX : (p : ℕ) (xl xh : ℤ) → Type 0
HoldsX p xl xh = Holds 56 xl xh (x_of p *ℚ part 8 (lit< tt))

-- at each temperature from lo to hi nanodegrees
pub record VariablesHold (lo hi : ℕ) (yl yh zl zh : ℤ) : Type 0 where
  pub y : (t : Fraction) → SpanHolds lo hi t → Holds 56 yl yh (y_of t *ℚ part 4 (lit< tt))
  pub z : (t : Fraction) → SpanHolds lo hi t → Holds 56 zl zh (inverse (y_of t))

pub record TauVariablesHold (lo hi : ℕ) (ul uh rl rh : ℤ) : Type 0 where
  pub u : (t : Fraction) → SpanHolds lo hi t → Holds 56 ul uh (u_of t)
  pub r : (t : Fraction) → SpanHolds lo hi t → Holds 56 rl rh (r_of t)

-- the greatest values, in 64ths, and the widths: a ratio has two roundings and its slope
abbrev pub x_size : Size
x_size = record { most = 57 * 2 ^ 50; base = 2 * parts; per = 0 }

abbrev pub u_size : Size
u_size = record { most = 21 * 2 ^ 50; base = 2 * parts; per = 54515053194 }

abbrev pub r_size : Size
r_size = record { most = 49 * 2 ^ 50; base = 2 * parts; per = 66617395003 }

abbrev pub y_size : Size
y_size = record { most = 62 * 2 ^ 50; base = 2 * parts; per = 350897682321 }

abbrev pub z_size : Size
z_size = record { most = 35 * 2 ^ 50; base = 2 * parts; per = 151194001951 }

-- over a span that is d nanodegrees wide
pub record VariablesSized (d : ℕ) (yl yh zl zh : ℤ) : Type 0 where
  pub y : SizedBy y_size d yl yh
  pub z : SizedBy z_size d zl zh
  pub y_low : pos 0 ≤ℤ yl
  pub z_low : pos 0 ≤ℤ zl

pub record TauVariablesSized (d : ℕ) (ul uh rl rh : ℤ) : Type 0 where
  pub u : SizedBy u_size d ul uh
  pub r : SizedBy r_size d rl rh
  pub u_low : pos 0 ≤ℤ ul
  pub r_low : pos 0 ≤ℤ rl
