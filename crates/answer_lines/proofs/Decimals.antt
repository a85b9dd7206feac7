-- The ends of an enclosure in a decimal unit.
use Rattle.std.proofs.Common.{◌≡◌, ℕ, ◌+◌, ◌*◌, ◌/◌, ◌^◌, ◌<◌, ◌∙◌, refl, sym, ap, arith, neg_ℤ, ℤ, pos, negsuc, ◌+ℤ◌, ◌*ℤ◌, ◌≤ℤ◌}
use Rattle.std.proofs.lemmas.Int.{ints}
use Rattle.std.proofs.lemmas.Nat.{pow_pos}
use lib.IntN.{◌-ℤ◌}
use lib.Signed.{≤ℤ_refl}
use Rattle.number_model.specs.Fraction.{Fraction, ◌≤ℚ◌}
use Rattle.number_model.specs.Rounding.{floor_div, ceil_div}
use Rattle.number_model.specs.Enclosure.{scaled}
use Rattle.number_model.proofs.Order.{≤ℚ_trans}
use Rattle.number_model.proofs.Roundings.{floor_by, ceil_by, ceil_div-le}
use Rattle.number_model.proofs.Ints.{as_diff, same_diff, ring, neg-*ℤ, recast}

-- z / n
abbrev over : ℤ → (n : ℕ) → 0 < n → Fraction
over z n above = record { num = z; den = n; positive = above }

pub low_end : (s n : ℕ) (lo d : ℤ) (x : Fraction) (above : 0 < n) → d ≡ floor_div (lo *ℤ pos n) (2 ^ s) → scaled s lo ≤ℚ x → over d n above ≤ℚ x
low_end s n lo d x above is holds = ≤ℚ_trans (record { crossed = rw is (floor_by _ _ (2 ^ s) (pow_pos s) (≤ℤ_refl (lo *ℤ pos n))) }) holds

pub high_end : (s n : ℕ) (hi d : ℤ) (x : Fraction) (above : 0 < n) → d ≡ ceil_div (hi *ℤ pos n) (2 ^ s) → x ≤ℚ scaled s hi → x ≤ℚ over d n above
high_end s n hi d x above is holds = ≤ℚ_trans holds (record { crossed = rw is (ceil_by _ _ (2 ^ s) (pow_pos s) (≤ℤ_refl (hi *ℤ pos n))) })

-- what was rounded down is less than one higher
below_next : (z : ℤ) (n : ℕ) → 0 < n → z ≤ℤ ((floor_div z n +ℤ pos 1) *ℤ pos n)
below_next (pos a) n h = omega (arith, ints)
below_next (negsuc a) n h =
    let next : (negsuc (a / n) +ℤ pos 1) ≡ neg_ℤ (pos (a / n)) = omega (arith, ints) in
    let under : negsuc a ≤ℤ neg_ℤ (pos (a / n) *ℤ pos n) = omega (arith, ints) in
    recast under refl (ap (λ z. z *ℤ pos n) next ∙ neg-*ℤ (pos (a / n)) (pos n))

apart_by : (hi lo : ℤ) (n w : ℕ) → ((hi -ℤ lo) *ℤ pos n) ≤ℤ pos w → (hi *ℤ pos n) ≤ℤ (lo *ℤ pos n +ℤ pos w)
apart_by hi lo n w h =
    let split : hi *ℤ pos n ≡ lo *ℤ pos n +ℤ (hi -ℤ lo) *ℤ pos n = rw (as_diff hi, as_diff lo) (simp ring (same_diff _ _ _ _ (omega arith))) in
    omega (arith, ints)

gather : (d : ℤ) (w m : ℕ) → (d +ℤ pos 1) *ℤ pos m +ℤ pos (w * m) ≡ (d +ℤ pos (w + 1)) *ℤ pos m
gather d w m = rw (as_diff d) (simp ring (same_diff _ _ _ _ (omega arith)))

-- rounding outwards takes the ends apart by at most one more
pub ends_width : (s n w : ℕ) (lo hi d e : ℤ) → d ≡ floor_div (lo *ℤ pos n) (2 ^ s) → e ≡ ceil_div (hi *ℤ pos n) (2 ^ s) → ((hi -ℤ lo) *ℤ pos n) ≤ℤ pos (w * 2 ^ s) → e ≤ℤ (d +ℤ pos (w + 1))
ends_width s n w lo hi d e down up width =
    let wide : (hi *ℤ pos n) ≤ℤ (lo *ℤ pos n +ℤ pos (w * 2 ^ s)) = apart_by hi lo n (w * 2 ^ s) width in
    let under : (lo *ℤ pos n) ≤ℤ ((d +ℤ pos 1) *ℤ pos (2 ^ s)) = rw down (below_next (lo *ℤ pos n) (2 ^ s) (pow_pos s)) in
    let all : (hi *ℤ pos n) ≤ℤ ((d +ℤ pos 1) *ℤ pos (2 ^ s) +ℤ pos (w * 2 ^ s)) = omega (arith, ints) in
    rw up (ceil_div-le (d +ℤ pos (w + 1)) (hi *ℤ pos n) (2 ^ s) (pow_pos s) (recast all refl (sym (gather d w (2 ^ s)))))
