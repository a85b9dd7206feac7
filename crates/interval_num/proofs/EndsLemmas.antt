-- The ends of enclosures.
use Rattle.std.proofs.Common.{ℕ, ◌-◌, ◌^◌, ◌≤◌, arith, ℤ, pos, neg_ℤ, ◌*ℤ◌, ◌≤ℤ◌, lit<}
use Rattle.std.proofs.lemmas.Int.{ints, clamps}
use Rattle.std.proofs.lemmas.Nat.{pow_pos}
use Rattle.std.proofs.Math.Nat.{pow-le-pow_right}
use Rattle.number_model.specs.Rounding.{IsWithin, floor_div, ceil_div}
use Rattle.number_model.proofs.Ints.{≤ℤ_trans, mul-le_pos}
use Rattle.number_model.proofs.Roundings.{floor-le_ceil}
use Rattle.interval_num.specs.Ends.{least_of, greatest_of}

-- lo and hi are ends of an enclosure: in order, and from -2^62 to 2^62
pub record AreEnds (lo hi : ℤ) : Type 0 where
  pub ordered : lo ≤ℤ hi
  pub low : neg_ℤ (pos (2 ^ 62)) ≤ℤ lo
  pub high : hi ≤ℤ pos (2 ^ 62)

-- a scale is at most 60
pub pow_at_most : (s : ℕ) → s ≤ 60 → 2 ^ s ≤ 2 ^ 60
pow_at_most s h = pow-le-pow_right {n = 2} (lit< tt) h

pub IsWithin-raised : (z : ℤ) (t : ℕ) → IsWithin (2 ^ 62) z → t ≤ 60 → IsWithin (2 ^ 122) (z *ℤ pos (2 ^ t))
IsWithin-raised z t w h =
    let top : 2 ^ t ≤ 2 ^ 60 = pow_at_most t h in
    let low : (neg_ℤ (pos (2 ^ 62)) *ℤ pos (2 ^ t)) ≤ℤ (z *ℤ pos (2 ^ t)) = mul-le_pos (2 ^ t) w.low in
    let high : (z *ℤ pos (2 ^ t)) ≤ℤ (pos (2 ^ 62) *ℤ pos (2 ^ t)) = mul-le_pos (2 ^ t) w.high in
    record { low = omega (arith, ints); high = omega (arith, ints) }

-- the ends that `scale_to` answers
pub AreEnds-scaled : (s t : ℕ) (l h : ℤ) → l ≤ℤ h → neg_ℤ (pos (2 ^ 62 - 1)) ≤ℤ floor_div (l *ℤ pos (2 ^ t)) (2 ^ s) → ceil_div (h *ℤ pos (2 ^ t)) (2 ^ s) ≤ℤ pos (2 ^ 62 - 1) → AreEnds (floor_div (l *ℤ pos (2 ^ t)) (2 ^ s)) (ceil_div (h *ℤ pos (2 ^ t)) (2 ^ s))
AreEnds-scaled s t l h p low high = record {
  ordered = floor-le_ceil (l *ℤ pos (2 ^ t)) (h *ℤ pos (2 ^ t)) (2 ^ s) (pow_pos s) (mul-le_pos (2 ^ t) p);
  low = omega (arith, ints, low);
  high = omega (arith, ints, high);
}

pub least_of_at_most : (a b c d : ℤ) → (least_of a b c d ≤ℤ a) × (least_of a b c d ≤ℤ b) × (least_of a b c d ≤ℤ c) × (least_of a b c d ≤ℤ d)
least_of_at_most a b c d = omega (arith, ints, clamps)

pub greatest_of_at_least : (a b c d : ℤ) → (a ≤ℤ greatest_of a b c d) × (b ≤ℤ greatest_of a b c d) × (c ≤ℤ greatest_of a b c d) × (d ≤ℤ greatest_of a b c d)
greatest_of_at_least a b c d = omega (arith, ints, clamps)

pub IsWithin-least : (n : ℕ) (a b c d : ℤ) → IsWithin n a → IsWithin n b → IsWithin n c → IsWithin n d → IsWithin n (least_of a b c d)
IsWithin-least n a b c d p q r s = record { low = omega (arith, ints, clamps); high = omega (arith, ints, clamps) }

pub IsWithin-greatest : (n : ℕ) (a b c d : ℤ) → IsWithin n a → IsWithin n b → IsWithin n c → IsWithin n d → IsWithin n (greatest_of a b c d)
IsWithin-greatest n a b c d p q r s = record { low = omega (arith, ints, clamps); high = omega (arith, ints, clamps) }

pub least_of-le_greatest : (a b c d : ℤ) → least_of a b c d ≤ℤ greatest_of a b c d
least_of-le_greatest a b c d = ≤ℤ_trans (least_of_at_most a b c d).0 (greatest_of_at_least a b c d).0
