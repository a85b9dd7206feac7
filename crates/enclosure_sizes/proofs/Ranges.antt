-- Ranges of products.
use Rattle.std.proofs.Common.{ℕ, ◌*◌, ◌^◌, ◌<◌, ◌≤◌, arith, ℤ, pos, negsuc, ◌*ℤ◌, ◌≤ℤ◌, neg_ℤ, unsigned_abs}
use Rattle.std.proofs.lemmas.Int.{ints, unsigned_abs-mul}
use Rattle.std.proofs.lemmas.Nat.{pow_pos}
use native.Mathlib.Nat.{mul-le-mul}
use Rattle.number_model.specs.Rounding.{IsWithin, floor_div, ceil_div}
use Rattle.number_model.proofs.Roundings.{floor_at_least, ceil_at_most}
use Rattle.interval_num.specs.Ends.{ProductsWithin, least_product, greatest_product}
use Rattle.interval_num.proofs.EndsLemmas.{IsWithin-least, IsWithin-greatest}

abs_within : (n : ℕ) (z : ℤ) → IsWithin n z → unsigned_abs z ≤ n
abs_within n z w = omega (arith, ints, w.low, w.high)

within_abs : (n : ℕ) (z : ℤ) → unsigned_abs z ≤ n → IsWithin n z
within_abs n (pos a) h = record { low = omega (arith, ints); high = omega (arith, ints) }
within_abs n (negsuc a) h = record { low = omega (arith, ints); high = omega (arith, ints) }

product_within : (m n k : ℕ) (a b : ℤ) → m * n ≤ k → IsWithin m a → IsWithin n b → IsWithin k (a *ℤ b)
product_within m n k a b fits p q =
    let size : unsigned_abs a * unsigned_abs b ≤ m * n = mul-le-mul (abs_within m a p) (abs_within n b q) in
    within_abs k (a *ℤ b) (omega (arith, unsigned_abs-mul a b))

pub products_within : (m n k : ℕ) (l h l' h' : ℤ) → m * n ≤ k → IsWithin m l → IsWithin m h → IsWithin n l' → IsWithin n h' → ProductsWithin k l h l' h'
products_within m n k l h l' h' fits a b c d = record {
  lm = product_within m n k l l' fits a c;
  hm = product_within m n k h l' fits b c;
  lk = product_within m n k l h' fits a d;
  hk = product_within m n k h h' fits b d;
}

pub down_low : (n : ℕ) (z : ℤ) → 0 < n → pos 0 ≤ℤ z → pos 0 ≤ℤ floor_div z n
down_low n (pos a) h p = omega (arith, ints)
down_low n (negsuc a) h p = absurd (omega (arith, ints))

pub ends_low : (n s : ℕ) (l h m k : ℤ) → ProductsWithin (n * 2 ^ s) l h m k → neg_ℤ (pos n) ≤ℤ floor_div (least_product l h m k) (2 ^ s)
ends_low n s l h m k w = floor_at_least n (2 ^ s) _ (pow_pos s) (IsWithin-least (n * 2 ^ s) _ _ _ _ w.lm w.hm w.lk w.hk).low

pub ends_high : (n s : ℕ) (l h m k : ℤ) → ProductsWithin (n * 2 ^ s) l h m k → ceil_div (greatest_product l h m k) (2 ^ s) ≤ℤ pos n
ends_high n s l h m k w = ceil_at_most n (2 ^ s) _ (pow_pos s) (IsWithin-greatest (n * 2 ^ s) _ _ _ _ w.lm w.hm w.lk w.hk).high
