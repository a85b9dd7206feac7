-- What the operations on enclosures require of the ends, and the ends that they answer.
use Rattle.std.specs.Prelude.{ℕ, ◌+◌, ◌*◌, ◌^◌, ◌≤◌, unsigned_abs, ℤ, pos, ◌*ℤ◌, ◌≤ℤ◌}
use Rattle.std.specs.Int.{int_min, int_max}
use Rattle.number_model.specs.Rounding.{IsWithin, floor_div, ceil_div}

-- the least and the greatest of four numbers
abbrev pub least_of : ℤ → ℤ → ℤ → ℤ → ℤ
least_of a b c d = int_min (int_min a b) (int_min c d)

abbrev pub greatest_of : ℤ → ℤ → ℤ → ℤ → ℤ
greatest_of a b c d = int_max (int_max a b) (int_max c d)

-- the least and the greatest product of an end of l to h and one of m to k
abbrev pub least_product : ℤ → ℤ → ℤ → ℤ → ℤ
least_product l h m k = least_of (l *ℤ m) (h *ℤ m) (l *ℤ k) (h *ℤ k)

abbrev pub greatest_product : ℤ → ℤ → ℤ → ℤ → ℤ
greatest_product l h m k = greatest_of (l *ℤ m) (h *ℤ m) (l *ℤ k) (h *ℤ k)

-- each product of two ends lies from -n to n
pub record ProductsWithin (n : ℕ) (l h m k : ℤ) : Type 0 where
  pub lm : IsWithin n (l *ℤ m)
  pub hm : IsWithin n (h *ℤ m)
  pub lk : IsWithin n (l *ℤ k)
  pub hk : IsWithin n (h *ℤ k)

-- a / b at the scale 2^s, rounded down and up, for b above 0
abbrev pub quotient_floor : ℕ → ℤ → ℤ → ℤ
quotient_floor s a b = floor_div (a *ℤ pos (2 ^ s)) (unsigned_abs b)

abbrev pub quotient_ceil : ℕ → ℤ → ℤ → ℤ
quotient_ceil s a b = ceil_div (a *ℤ pos (2 ^ s)) (unsigned_abs b)

-- the least quotient of an end of l to h by one of m to k, rounded down, and the greatest, rounded up
abbrev pub least_quotient : ℕ → ℤ → ℤ → ℤ → ℤ → ℤ
least_quotient s l h m k = least_of (quotient_floor s l m) (quotient_floor s h m) (quotient_floor s l k) (quotient_floor s h k)

abbrev pub greatest_quotient : ℕ → ℤ → ℤ → ℤ → ℤ → ℤ
greatest_quotient s l h m k = greatest_of (quotient_ceil s l m) (quotient_ceil s h m) (quotient_ceil s l k) (quotient_ceil s h k)

-- each quotient of two ends, times 2^s, lies from -n to n
pub record QuotientsWithin (n s : ℕ) (l h m k : ℤ) : Type 0 where
  pub lm : IsWithin (n * unsigned_abs m) (l *ℤ pos (2 ^ s))
  pub hm : IsWithin (n * unsigned_abs m) (h *ℤ pos (2 ^ s))
  pub lk : IsWithin (n * unsigned_abs k) (l *ℤ pos (2 ^ s))
  pub hk : IsWithin (n * unsigned_abs k) (h *ℤ pos (2 ^ s))

-- lo' and hi' lie from 0 to 2^s, and lo' <= lo^n / 2^(s * (n - 1)) <= lo' + n and hi' - n <= hi^n / 2^(s * (n - 1)) <= hi'
pub record IsPower (s n : ℕ) (lo hi lo' hi' : ℤ) : Type 0 where
  pub low : pos 0 ≤ℤ lo'
  pub high : hi' ≤ℤ pos (2 ^ s)
  pub low_below : unsigned_abs lo' * (2 ^ s) ^ n ≤ unsigned_abs lo ^ n * 2 ^ s
  pub low_above : unsigned_abs lo ^ n * 2 ^ s ≤ (unsigned_abs lo' + n) * (2 ^ s) ^ n
  pub high_above : unsigned_abs hi ^ n * 2 ^ s ≤ unsigned_abs hi' * (2 ^ s) ^ n
  pub high_below : unsigned_abs hi' * (2 ^ s) ^ n ≤ unsigned_abs hi ^ n * 2 ^ s + n * (2 ^ s) ^ n
