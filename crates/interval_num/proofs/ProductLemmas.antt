-- The products of two pairs of ends.
use Rattle.std.proofs.Common.{ℕ, ◌-◌, ◌*◌, ◌^◌, ◌<◌, ◌≤◌, arith, ℤ, pos, neg_ℤ, ◌*ℤ◌, ◌≤ℤ◌}
use Rattle.std.proofs.lemmas.Int.{ints}
use Rattle.std.proofs.lemmas.Nat.{pow_pos}
use lib.Signed.{≤ℤ_refl}
use Rattle.number_model.specs.Rounding.{floor_div, ceil_div}
use Rattle.number_model.proofs.Ints.{flip_le, ≤ℤ_trans, le_of_mul-le_pos}
use Rattle.number_model.proofs.Roundings.{IsWithin-wider, floor_by, ceil_by, floor_at_least}
use Rattle.number_model.proofs.Enclosures.{Encloses4}
use Rattle.interval_num.specs.Ends.{ProductsWithin, least_product, greatest_product}
use Rattle.interval_num.proofs.EndsLemmas.{AreEnds, pow_at_most, least_of_at_most, greatest_of_at_least, least_of-le_greatest, IsWithin-least, IsWithin-greatest}

pub ProductsWithin-wider : (s : ℕ) (l h m k : ℤ) → s ≤ 60 → ProductsWithin ((2 ^ 62 - 1) * 2 ^ s) l h m k → ProductsWithin (2 ^ 126) l h m k
ProductsWithin-wider s l h m k small w =
    let p : (2 ^ 62 - 1) * 2 ^ s ≤ 2 ^ 126 = omega (arith, pow_at_most s small) in
    record { lm = IsWithin-wider _ _ _ p w.lm; hm = IsWithin-wider _ _ _ p w.hm; lk = IsWithin-wider _ _ _ p w.lk; hk = IsWithin-wider _ _ _ p w.hk }

pub Encloses4-products : (s : ℕ) (l h m k : ℤ) → Encloses4 (2 ^ s) (floor_div (least_product l h m k) (2 ^ s)) (ceil_div (greatest_product l h m k) (2 ^ s)) l h m k
Encloses4-products s l h m k =
    let least = least_of_at_most (l *ℤ m) (h *ℤ m) (l *ℤ k) (h *ℤ k) in
    let greatest = greatest_of_at_least (l *ℤ m) (h *ℤ m) (l *ℤ k) (h *ℤ k) in
    record {
      ll = (floor_by _ _ (2 ^ s) (pow_pos s) least.0, ceil_by _ _ (2 ^ s) (pow_pos s) greatest.0);
      hl = (floor_by _ _ (2 ^ s) (pow_pos s) least.1, ceil_by _ _ (2 ^ s) (pow_pos s) greatest.1);
      lh = (floor_by _ _ (2 ^ s) (pow_pos s) least.2, ceil_by _ _ (2 ^ s) (pow_pos s) greatest.2);
      hh = (floor_by _ _ (2 ^ s) (pow_pos s) least.3, ceil_by _ _ (2 ^ s) (pow_pos s) greatest.3);
    }

-- the ends that `mul` answers
pub AreEnds-products : (s : ℕ) (l h m k : ℤ) → ProductsWithin ((2 ^ 62 - 1) * 2 ^ s) l h m k → AreEnds (floor_div (least_product l h m k) (2 ^ s)) (ceil_div (greatest_product l h m k) (2 ^ s))
AreEnds-products s l h m k w =
    let n = 2 ^ 62 - 1 in
    let above : 0 < 2 ^ s = pow_pos s in
    let least = IsWithin-least (n * 2 ^ s) _ _ _ _ w.lm w.hm w.lk w.hk in
    let greatest = IsWithin-greatest (n * 2 ^ s) _ _ _ _ w.lm w.hm w.lk w.hk in
    let low : neg_ℤ (pos n) ≤ℤ floor_div (least_product l h m k) (2 ^ s) = floor_at_least n (2 ^ s) _ above least.low in
    let high : neg_ℤ (pos n) ≤ℤ floor_div (neg_ℤ (greatest_product l h m k)) (2 ^ s) = floor_at_least n (2 ^ s) _ above (flip_le greatest.high) in
    record {
      ordered = le_of_mul-le_pos (2 ^ s) above (≤ℤ_trans (floor_by (least_product l h m k) (greatest_product l h m k) (2 ^ s) above (least_of-le_greatest (l *ℤ m) (h *ℤ m) (l *ℤ k) (h *ℤ k))) (ceil_by (greatest_product l h m k) (greatest_product l h m k) (2 ^ s) above (≤ℤ_refl _)));
      low = omega (arith, ints, low);
      high = omega (arith, ints, high);
    }
