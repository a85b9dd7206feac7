-- One step of Horner's scheme: a number that is not negative times one of either sign.
use Rattle.std.proofs.Common.{◌≡◌, ℕ, ◌+◌, ◌*◌, ◌^◌, ◌<◌, ◌≤◌, max, sym, ap, ◌∙◌, arith, unsigned_abs, ℤ, pos, negsuc, neg_ℤ, ◌+ℤ◌, ◌*ℤ◌, ◌≤ℤ◌, ◌<ℤ◌, false}
use Rattle.std.proofs.lemmas.Int.{ints, clamps, unsigned_abs-mul}
use Rattle.std.proofs.lemmas.Nat.{pow_pos}
use Rattle.std.specs.Int.{int_min, int_max}
use native.Mathlib.Nat.{mul-le-mul}
use lib.IntN.{◌-ℤ◌}
use lib.Signed.{lt_z, ≤ℤ_refl}
use mir.Val.{SFits}
use mir.Syntax.{w128}
use Rattle.number_model.specs.Rounding.{IsWithin, floor_div, ceil_div}
use Rattle.number_model.proofs.Ints.{mul-le_pos, mul-le_neg, ≤ℤ_trans, as_diff, same_diff, diffs}
use Rattle.number_model.proofs.Roundings.{floor_at_least, ceil_at_most, floor-le_ceil}
use Rattle.interval_num.specs.Ends.{least_product, greatest_product}
use Rattle.interval_num.proofs.EndsLemmas.{least_of-le_greatest, IsWithin-least, IsWithin-greatest}

-- ---- products of a number from 0 on
pub rising : (a b h : ℤ) → a ≤ℤ b → pos 0 ≤ℤ h → (a *ℤ h) ≤ℤ (b *ℤ h)
rising a b (pos n) o p = mul-le_pos n o
rising a b (negsuc n) o p = absurd (omega (arith, ints, p))

pub falling : (a b h : ℤ) → a ≤ℤ b → h <ℤ pos 0 → (b *ℤ h) ≤ℤ (a *ℤ h)
falling a b (pos n) o p = absurd (omega (arith, ints, p))
falling a b (negsuc n) o p = mul-le_neg n o

pub product_within : (m n : ℕ) (a b : ℤ) → IsWithin m a → IsWithin n b → IsWithin (m * n) (a *ℤ b)
product_within m n a b p q =
    let size : unsigned_abs a * unsigned_abs b ≤ m * n = mul-le-mul {n₂ = m} {m₂ = n} (omega (arith, ints, p.low, p.high)) (omega (arith, ints, q.low, q.high)) in
    within (a *ℤ b) (omega (arith, size, unsigned_abs-mul a b))
  where
    within : (z : ℤ) → unsigned_abs z ≤ m * n → IsWithin (m * n) z
    within (pos c) h = record { low = omega (arith, ints); high = omega (arith, ints) }
    within (negsuc c) h = record { low = omega (arith, ints); high = omega (arith, ints) }

-- which end of l to u gives the least and the greatest product
pub min_falling : (l u h : ℤ) → l ≤ℤ u → h <ℤ pos 0 → int_min (l *ℤ h) (u *ℤ h) ≡ u *ℤ h
min_falling l u h o p = omega (arith, ints, clamps, falling l u h o p)

pub min_rising : (l u h : ℤ) → l ≤ℤ u → pos 0 ≤ℤ h → int_min (l *ℤ h) (u *ℤ h) ≡ l *ℤ h
min_rising l u h o p = omega (arith, ints, clamps, rising l u h o p)

pos-mul_le : (n : ℕ) (m k : ℤ) → m ≤ℤ k → (pos n *ℤ m) ≤ℤ (pos n *ℤ k)
pos-mul_le n m k h = omega (arith, ints, mul-le_pos n h, swap n m, swap n k)
  where
    swap : (n : ℕ) (z : ℤ) → pos n *ℤ z ≡ z *ℤ pos n
    swap n (pos a) = omega (arith, ints)
    swap n (negsuc a) = omega (arith, ints)

scaled : (a m k : ℤ) → pos 0 ≤ℤ a → m ≤ℤ k → (a *ℤ m) ≤ℤ (a *ℤ k)
scaled (pos a) m k p q = pos-mul_le a m k q
scaled (negsuc a) m k p q = absurd (omega (arith, ints, p))

-- of both ends of h, the lower gives the least, and the upper the greatest
pub least_by_low : (l u m k : ℤ) → pos 0 ≤ℤ l → l ≤ℤ u → m ≤ℤ k → least_product l u m k ≡ int_min (l *ℤ m) (u *ℤ m)
least_by_low l u m k p o q = omega (arith, ints, clamps, scaled l m k p q, scaled u m k (≤ℤ_trans p o) q)

pub greatest_by_high : (l u m k : ℤ) → pos 0 ≤ℤ l → l ≤ℤ u → m ≤ℤ k → greatest_product l u m k ≡ int_max (l *ℤ k) (u *ℤ k)
greatest_by_high l u m k p o q = omega (arith, ints, clamps, scaled l m k p q, scaled u m k (≤ℤ_trans p o) q)

pub product_fits : (z h : ℤ) → pos 0 ≤ℤ z → z ≤ℤ pos (2 ^ 60) → IsWithin (2 ^ 61) h → SFits w128 (z *ℤ h)
product_fits z h p q w =
    let size = product_within (2 ^ 60) (2 ^ 61) z h (record { low = omega (arith, ints, p); high = q }) w in
    omega (arith, ints, size.low, size.high)

pub not_below_of : (z : ℤ) → lt_z z (pos 0) ≡ false → pos 0 ≤ℤ z
not_below_of z h = grind (arith, ints)

negated : (a k : ℤ) → a *ℤ (pos 0 -ℤ k) ≡ neg_ℤ (a *ℤ k)
negated a k = rw (as_diff a, as_diff k) (simp diffs (same_diff _ _ _ _ (omega arith)))

min_negated : (a b : ℤ) → int_min (neg_ℤ a) (neg_ℤ b) ≡ neg_ℤ (int_max a b)
min_negated a b = omega (arith, ints, clamps)

-- the greatest product, rounded up, by the least product with -k, rounded down
pub high_by_low : (n : ℕ) (l u m k : ℤ) → pos 0 ≤ℤ l → l ≤ℤ u → m ≤ℤ k → neg_ℤ (floor_div (int_min (l *ℤ (pos 0 -ℤ k)) (u *ℤ (pos 0 -ℤ k))) n) ≡ ceil_div (greatest_product l u m k) n
high_by_low n l u m k p o q =
    ap (λ z. neg_ℤ (floor_div z n)) (rw (negated l k, negated u k) (min_negated (l *ℤ k) (u *ℤ k) ∙ ap neg_ℤ (sym (greatest_by_high l u m k p o q))))

floor_at_most : (M n : ℕ) (z : ℤ) → 0 < n → z ≤ℤ pos (M * n) → floor_div z n ≤ℤ pos M
floor_at_most M n z above h = ≤ℤ_trans (floor-le_ceil z z n above (≤ℤ_refl z)) (ceil_at_most M n z above h)

-- the product of a number from 0 to 1 and one of at most M
pub record Shrinks (M : ℕ) (a b : ℤ) : Type 0 where
  pub a_low : neg_ℤ (pos M) ≤ℤ a
  pub a_high : a ≤ℤ pos M
  pub b_low : neg_ℤ (pos M) ≤ℤ b
  pub b_high : b ≤ℤ pos M
  pub ordered : a ≤ℤ b

pub shrinks : (M s : ℕ) (l u m k : ℤ) → pos 0 ≤ℤ l → l ≤ℤ u → u ≤ℤ pos (2 ^ s) → m ≤ℤ k → IsWithin M m → IsWithin M k
    → Shrinks M (floor_div (least_product l u m k) (2 ^ s)) (ceil_div (greatest_product l u m k) (2 ^ s))
shrinks M s l u m k p o top q wm wk =
    let above : 0 < 2 ^ s = pow_pos s in
    let wl : IsWithin (2 ^ s) l = record { low = omega (arith, ints, p); high = ≤ℤ_trans o top } in
    let wu : IsWithin (2 ^ s) u = record { low = omega (arith, ints, p, o); high = top } in
    let lm = product_within (2 ^ s) M l m wl wm in
    let um = product_within (2 ^ s) M u m wu wm in
    let lk = product_within (2 ^ s) M l k wl wk in
    let uk = product_within (2 ^ s) M u k wu wk in
    let turned : 2 ^ s * M ≡ M * 2 ^ s = omega arith in
    let least = rw turned at (IsWithin-least (2 ^ s * M) _ _ _ _ lm um lk uk) in
    let greatest = rw turned at (IsWithin-greatest (2 ^ s * M) _ _ _ _ lm um lk uk) in
    let ordered : floor_div (least_product l u m k) (2 ^ s) ≤ℤ ceil_div (greatest_product l u m k) (2 ^ s) =
    floor-le_ceil (least_product l u m k) (greatest_product l u m k) (2 ^ s) above (least_of-le_greatest (l *ℤ m) (u *ℤ m) (l *ℤ k) (u *ℤ k)) in
    let low = floor_at_least M (2 ^ s) _ above least.low in
    let high = ceil_at_most M (2 ^ s) _ above greatest.high in
    record { a_low = low; a_high = ≤ℤ_trans ordered high; b_low = ≤ℤ_trans low ordered; b_high = high; ordered = ordered }

pub within_abs : (m k : ℤ) → IsWithin (max (unsigned_abs m) (unsigned_abs k)) m × IsWithin (max (unsigned_abs m) (unsigned_abs k)) k
within_abs m k = (record { low = omega (arith, ints); high = omega (arith, ints) }, record { low = omega (arith, ints); high = omega (arith, ints) })

pub sum_magnitude : (M : ℕ) (c a d b : ℤ) → Shrinks M a b → max (unsigned_abs (c +ℤ a)) (unsigned_abs (d +ℤ b)) ≤ max (unsigned_abs c) (unsigned_abs d) + M
sum_magnitude M c a d b h = omega (arith, ints, h.a_low, h.a_high, h.b_low, h.b_high)

-- both ends of a product, by the least products with m and with -k
pub record Stepped (M s : ℕ) (l u m k a b : ℤ) : Type 0 where
  pub low_is : a ≡ floor_div (least_product l u m k) (2 ^ s)
  pub high_is : neg_ℤ b ≡ ceil_div (greatest_product l u m k) (2 ^ s)
  pub shrinks : Shrinks M a (neg_ℤ b)

pub stepped : (s : ℕ) (l u m k a b : ℤ) → pos 0 ≤ℤ l → l ≤ℤ u → u ≤ℤ pos (2 ^ s) → m ≤ℤ k
    → a ≡ floor_div (int_min (l *ℤ m) (u *ℤ m)) (2 ^ s) → b ≡ floor_div (int_min (l *ℤ (pos 0 -ℤ k)) (u *ℤ (pos 0 -ℤ k))) (2 ^ s)
    → Stepped (max (unsigned_abs m) (unsigned_abs k)) s l u m k a b
stepped s l u m k a b p o top q e f =
    let low = e ∙ ap (λ z. floor_div z (2 ^ s)) (sym (least_by_low l u m k p o q)) in
    let high = ap neg_ℤ f ∙ high_by_low (2 ^ s) l u m k p o q in
    let w = within_abs m k in
    record { low_is = low; high_is = high; shrinks = rw (low, high) (shrinks (max (unsigned_abs m) (unsigned_abs k)) s l u m k p o top q w.0 w.1) }

-- the ends of c + z * h
pub record SumEnds (x y : ℤ) : Type 0 where
  pub ordered : x ≤ℤ y
  pub low : neg_ℤ (pos (2 ^ 62)) ≤ℤ x
  pub high : y ≤ℤ pos (2 ^ 62)
  pub most : x ≤ℤ pos (2 ^ 62)

pub sum_ends : (M : ℕ) (c d a b : ℤ) → c ≤ℤ d → Shrinks M a (neg_ℤ b) → max (unsigned_abs c) (unsigned_abs d) + M ≤ 2 ^ 61 → SumEnds (c +ℤ a) (d -ℤ b)
sum_ends M c d a b o h room = record {
  ordered = omega (arith, ints, o, h.ordered);
  low = omega (arith, ints, room, h.a_low);
  high = omega (arith, ints, room, h.b_high);
  most = omega (arith, ints, room, h.a_high);
}
