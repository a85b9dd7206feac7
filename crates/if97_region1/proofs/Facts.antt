-- What sizes say of ranges and widths.
use Rattle.std.proofs.Common.{◌≡◌, ℕ, ◌+◌, ◌-◌, ◌*◌, ◌^◌, ◌≤◌, arith, lit<, lit≤, refl, ℤ, pos, neg_ℤ, ◌+ℤ◌, ◌*ℤ◌, ◌≤ℤ◌}
use Rattle.std.proofs.lemmas.Int.{ints}
use lib.IntN.{◌-ℤ◌}
use native.Mathlib.Nat.{mul-le-mul_right}
use Rattle.number_model.specs.Fraction.{Fraction, ◌*ℚ◌, ◌≈◌, part, times_ℚ}
use Rattle.number_model.specs.Rounding.{IsWithin, floor_div, ceil_div}
use Rattle.number_model.proofs.Ints.{≤ℤ_trans, mul-le_pos, le_of_mul-le_pos, recast, as_diff, same_diff, diffs, ring}
use Rattle.std.proofs.lemmas.Nat.{pow_pos}
use Rattle.number_model.proofs.Roundings.{floor_div-scale_down, ceil_div-scale_down, floor_div-scale_up, ceil_div-scale_up}
use Rattle.interval_num.specs.Ends.{ProductsWithin}
use Rattle.enclosure_sizes.specs.Size.{Size, Sized, SizedBy, parts, down_size, up_size}
use Rattle.enclosure_sizes.proofs.Ranges.{products_within}
use Rattle.enclosure_sizes.proofs.Sizes.{Sized-down, Sized-up, Sized-wider}

-- ---- ranges
within_low : (m a b d : ℕ) (l h : ℤ) → l ≤ℤ h → Sized m a b d l h → IsWithin m l
within_low m a b d l h order z = record { low = z.low; high = omega (arith, ints, order, z.high) }

within_high : (m a b d : ℕ) (l h : ℤ) → l ≤ℤ h → Sized m a b d l h → IsWithin m h
within_high m a b d l h order z = record { low = omega (arith, ints, order, z.low); high = z.high }

pub sized_products : (k m a b n a' b' d : ℕ) (l h l' h' : ℤ) → l ≤ℤ h → l' ≤ℤ h' → Sized m a b d l h → Sized n a' b' d l' h' → m * n ≤ k → ProductsWithin k l h l' h'
sized_products k m a b n a' b' d l h l' h' order order' y z room =
    products_within m n k l h l' h' room (within_low m a b d l h order y) (within_high m a b d l h order y) (within_low n a' b' d l' h' order' z) (within_high n a' b' d l' h' order' z)

pub sized_sums : (m a b n a' b' d : ℕ) (l h l' h' : ℤ) → Sized m a b d l h → Sized n a' b' d l' h' → m + n ≤ 2 ^ 62 → (neg_ℤ (pos (2 ^ 62)) ≤ℤ (l +ℤ l')) × ((h +ℤ h') ≤ℤ pos (2 ^ 62))
sized_sums m a b n a' b' d l h l' h' y z room = (omega (arith, ints, y.low, z.low, room), omega (arith, ints, y.high, z.high, room))

-- ---- the width in decimal units
pub width_from : (a b d m n N s : ℕ) (l h : ℤ) → ((h -ℤ l) *ℤ pos parts) ≤ℤ pos (a + b * d) → a * N ≤ m * s * parts → b * N ≤ n * s * parts → ((h -ℤ l) *ℤ pos N) ≤ℤ pos ((m + n * d) * s)
width_from a b d m n N s l h w base per =
    let scaled : (((h -ℤ l) *ℤ pos parts) *ℤ pos N) ≤ℤ (pos (a + b * d) *ℤ pos N) = mul-le_pos N w in
    let line : (a + b * d) * N ≤ (m + n * d) * s * parts = omega (arith, base, mul-le-mul_right d per) in
    le_of_mul-le_pos parts (lit< tt) (≤ℤ_trans (recast scaled (turn (h -ℤ l) N parts) refl) (up line))
  where
    turn : (z : ℤ) (a b : ℕ) → (z *ℤ pos a) *ℤ pos b ≡ (z *ℤ pos b) *ℤ pos a
    turn z a b = rw (as_diff z) (simp diffs (same_diff _ _ _ _ (omega arith)))

    up : {a b : ℕ} → a ≤ b → pos a ≤ℤ pos b
    up h = omega (arith, ints, h)

-- ---- other scales
pub coarser : (s t : ℕ) → t ≤ s → (z : Size) (d : ℕ) (lo hi : ℤ) → SizedBy z d lo hi → SizedBy (down_size (2 ^ (s - t)) z) d (floor_div (lo *ℤ pos (2 ^ t)) (2 ^ s)) (ceil_div (hi *ℤ pos (2 ^ t)) (2 ^ s))
coarser s t h z d lo hi y = rw (floor_div-scale_down s t lo h, ceil_div-scale_down s t hi h) (Sized-down (2 ^ (s - t)) _ _ _ d lo hi (pow_pos (s - t)) y)

pub finer : (s t : ℕ) → s ≤ t → (z : Size) (d : ℕ) (lo hi : ℤ) → SizedBy z d lo hi → SizedBy (up_size (2 ^ (t - s)) z) d (floor_div (lo *ℤ pos (2 ^ t)) (2 ^ s)) (ceil_div (hi *ℤ pos (2 ^ t)) (2 ^ s))
finer s t h z d lo hi y = rw (floor_div-scale_up s t lo h, ceil_div-scale_up s t hi h) (Sized-up (2 ^ (t - s)) _ _ _ d lo hi y)

-- a quarter, by mantissas that are read at a scale finer by 2^2
pub same_quarter : (c : Fraction) → times_ℚ c (2 ^ 48) (2 ^ 50) (pow_pos 50) ≈ (c *ℚ part 4 (lit< tt))
same_quarter c = record { crossed = law c.num c.den }
  where
    law : (a : ℤ) (b : ℕ) → (a *ℤ pos (2 ^ 48)) *ℤ pos (b * 4) ≡ (a *ℤ pos 1) *ℤ pos (b * 2 ^ 50)
    law a b = rw (as_diff a) (simp ring (same_diff _ _ _ _ (omega arith)))

-- ---- one size within another
pub record Within (s t : Size) : Type 0 where
  pub most : s.most ≤ t.most
  pub base : s.base ≤ t.base
  pub per : s.per ≤ t.per

pub widened : {s t : Size} → Within s t → (d : ℕ) (lo hi : ℤ) → SizedBy s d lo hi → SizedBy t d lo hi
widened w d lo hi z = Sized-wider _ _ _ _ _ _ d lo hi w.most w.base w.per z

-- the width where the span is one temperature
pub width_of_point : (m n b : ℕ) (lo hi : ℤ) → Sized m (n * parts) b 0 lo hi → hi ≤ℤ (lo +ℤ pos n)
width_of_point m n b lo hi z =
    let w : ((hi -ℤ lo) *ℤ pos parts) ≤ℤ pos (n * parts) = omega (arith, ints, z.width) in
    omega (arith, ints, w)

-- room at a scale
pub room : (z : Size) (d : ℕ) (lo hi : ℤ) → z.most ≤ 2 ^ 62 - 1 → SizedBy z d lo hi → (neg_ℤ (pos (2 ^ 62 - 1)) ≤ℤ lo) × (hi ≤ℤ pos (2 ^ 62 - 1))
room z d lo hi h y = (omega (arith, ints, h, y.low), omega (arith, ints, h, y.high))

pub below : (m n : ℕ) (z : ℤ) → m ≤ n → z ≤ℤ pos m → z ≤ℤ pos n
below m n z h k = omega (arith, ints, h, k)

pub floor_coarser : (z : ℤ) → floor_div (z *ℤ pos (2 ^ 48)) (2 ^ 56) ≡ floor_div z (2 ^ 8)
floor_coarser z = floor_div-scale_down 56 48 z (lit≤ tt)

pub ceil_coarser : (z : ℤ) → ceil_div (z *ℤ pos (2 ^ 48)) (2 ^ 56) ≡ ceil_div z (2 ^ 8)
ceil_coarser z = ceil_div-scale_down 56 48 z (lit≤ tt)

pub within_most : {m n : ℕ} {z : ℤ} → m ≤ n → neg_ℤ (pos m) ≤ℤ z → neg_ℤ (pos n) ≤ℤ z
within_most h k = omega (arith, ints, h, k)

pub most_within : {m n : ℕ} {z : ℤ} → m ≤ n → z ≤ℤ pos m → z ≤ℤ pos n
most_within h k = omega (arith, ints, h, k)
