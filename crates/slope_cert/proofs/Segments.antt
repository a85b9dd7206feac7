-- Segments of one degree, and ranges in billionths.
use Rattle.std.proofs.Common.{ℕ, ◌+◌, ◌*◌, ◌^◌, ◌≤◌, arith, lit<, refl, ℤ, pos, ◌+ℤ◌, ◌*ℤ◌, ◌≤ℤ◌}
use Rattle.std.proofs.lemmas.Int.{ints}
use lib.IntN.{◌-ℤ◌}
use lib.Signed.{≤ℤ_refl}
use Rattle.number_model.specs.Fraction.{Fraction, ◌*ℚ◌, whole}
use Rattle.number_model.specs.Enclosure.{Holds, SpanHolds}
use Rattle.number_model.specs.Rounding.{floor_div, ceil_div}
use Rattle.number_model.proofs.Ints.{as_diff, same_diff, ring, mul-le_pos, le_of_mul-le_pos, recast, ≤ℤ_trans}
use Rattle.number_model.proofs.Roundings.{floor_by, ceil_by}
use Rattle.heat_model.specs.Heat.{LiesBetween}
use Rattle.region1_terms.proofs.Temperatures.{floor_near, ceil_near}
use Rattle.slope_model.specs.Slope.{IsInSegment}

pub in_segment : (i : ℕ) (t : Fraction) → IsInSegment i t → SpanHolds (i * 10 ^ 9) ((i + 1) * 10 ^ 9) t
in_segment i t s = record {
  low = record { crossed = low_of i t.den t.num s.low.crossed };
  high = record { crossed = high_of i t.den t.num s.high.crossed };
}
  where
    low_of : (i d : ℕ) (z : ℤ) → (pos i *ℤ pos d) ≤ℤ (z *ℤ pos 1) → (pos (i * 10 ^ 9) *ℤ pos d) ≤ℤ (z *ℤ pos 1000000000)
    low_of i d z h = omega (arith, ints, h)

    high_of : (i d : ℕ) (z : ℤ) → (z *ℤ pos 1) ≤ℤ (pos (i + 1) *ℤ pos d) → (z *ℤ pos 1000000000) ≤ℤ (pos ((i + 1) * 10 ^ 9) *ℤ pos d)
    high_of i d z h = omega (arith, ints, h)

-- 10^9 times what lies between the ends, rounded outwards
pub billionths_hold : (lo hi : ℤ) (x : Fraction) → Holds 48 lo hi x → LiesBetween (floor_div (lo *ℤ pos (10 ^ 9)) (2 ^ 48)) (ceil_div (hi *ℤ pos (10 ^ 9)) (2 ^ 48)) (whole (10 ^ 9) *ℚ x)
billionths_hold lo hi x p = record {
  low = record { crossed = low_of _ lo x.num x.den (floor_by (lo *ℤ pos (10 ^ 9)) _ (2 ^ 48) (lit< tt) (≤ℤ_refl _)) p.low.crossed };
  high = record { crossed = high_of _ hi x.num x.den (ceil_by (hi *ℤ pos (10 ^ 9)) _ (2 ^ 48) (lit< tt) (≤ℤ_refl _)) p.high.crossed };
}
  where
    low_of : (f l a : ℤ) (b : ℕ) → (f *ℤ pos (2 ^ 48)) ≤ℤ (l *ℤ pos (10 ^ 9)) → (l *ℤ pos b) ≤ℤ (a *ℤ pos (2 ^ 48)) → (f *ℤ pos (1 * b)) ≤ℤ ((pos (10 ^ 9) *ℤ a) *ℤ pos 1)
    low_of f l a b h k =
        let h' : ((f *ℤ pos (2 ^ 48)) *ℤ pos b) ≤ℤ ((l *ℤ pos (10 ^ 9)) *ℤ pos b) = mul-le_pos b h in
        let k' : ((l *ℤ pos b) *ℤ pos (10 ^ 9)) ≤ℤ ((a *ℤ pos (2 ^ 48)) *ℤ pos (10 ^ 9)) = mul-le_pos (10 ^ 9) k in
        le_of_mul-le_pos (2 ^ 48) (lit< tt)
        (recast (≤ℤ_trans (recast h' refl (rw (as_diff l) (simp ring (same_diff _ _ _ _ (omega arith))))) k')
        (rw (as_diff f) (simp ring (same_diff _ _ _ _ (omega arith))))
        (rw (as_diff a) (simp ring (same_diff _ _ _ _ (omega arith)))))

    high_of : (f h a : ℤ) (b : ℕ) → (h *ℤ pos (10 ^ 9)) ≤ℤ (f *ℤ pos (2 ^ 48)) → (a *ℤ pos (2 ^ 48)) ≤ℤ (h *ℤ pos b) → ((pos (10 ^ 9) *ℤ a) *ℤ pos 1) ≤ℤ (f *ℤ pos (1 * b))
    high_of f h a b k l =
        let k' : ((h *ℤ pos (10 ^ 9)) *ℤ pos b) ≤ℤ ((f *ℤ pos (2 ^ 48)) *ℤ pos b) = mul-le_pos b k in
        let l' : ((a *ℤ pos (2 ^ 48)) *ℤ pos (10 ^ 9)) ≤ℤ ((h *ℤ pos b) *ℤ pos (10 ^ 9)) = mul-le_pos (10 ^ 9) l in
        le_of_mul-le_pos (2 ^ 48) (lit< tt)
        (recast (≤ℤ_trans (recast l' refl (rw (as_diff h) (simp ring (same_diff _ _ _ _ (omega arith))))) k')
        (rw (as_diff a) (simp ring (same_diff _ _ _ _ (omega arith))))
        (rw (as_diff f) (simp ring (same_diff _ _ _ _ (omega arith)))))

pub billionths_width : (d : ℕ) (lo hi : ℤ) → d ≤ 10 ^ 9 → ((hi -ℤ lo) *ℤ pos (10 ^ 9)) ≤ℤ pos ((1000 + 2 * d) * 2 ^ 48)
    → (ceil_div (hi *ℤ pos (10 ^ 9)) (2 ^ 48) -ℤ floor_div (lo *ℤ pos (10 ^ 9)) (2 ^ 48)) ≤ℤ pos (4 * 10 ^ 9)
billionths_width d lo hi few h =
    between (ceil_div (hi *ℤ pos (10 ^ 9)) (2 ^ 48)) (floor_div (lo *ℤ pos (10 ^ 9)) (2 ^ 48)) lo hi
    (ceil_near (hi *ℤ pos (10 ^ 9)) (2 ^ 48) (lit< tt)) (floor_near (lo *ℤ pos (10 ^ 9)) (2 ^ 48) (lit< tt)) (omega (arith, ints, h, few))
  where
    between : (c f lo hi : ℤ) → (c *ℤ pos (2 ^ 48)) ≤ℤ ((hi *ℤ pos (10 ^ 9)) +ℤ pos (2 ^ 48)) → (lo *ℤ pos (10 ^ 9)) ≤ℤ ((f *ℤ pos (2 ^ 48)) +ℤ pos (2 ^ 48))
        → ((hi -ℤ lo) *ℤ pos (10 ^ 9)) ≤ℤ pos ((1000 + 2 * 10 ^ 9) * 2 ^ 48) → (c -ℤ f) ≤ℤ pos (4 * 10 ^ 9)
    between c f lo hi h k w = omega (arith, ints, h, k, w)
