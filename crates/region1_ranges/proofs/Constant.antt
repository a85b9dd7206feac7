-- The range of c0 - 1.222 c1, of which both parts are larger, from 1,100 to 4,000 kPa.
use Rattle.std.proofs.Common.{◌≡◌, ℕ, ◌*◌, ◌/◌, ◌^◌, ◌≤◌, lit<, refl, ℤ, pos, neg_ℤ, ◌*ℤ◌, arith, true}
use lib.Signed.{le_z}
use Rattle.number_model.specs.Fraction.{Fraction, ◌*ℚ◌, ◌≈◌, neg_ℚ, part}
use Rattle.number_model.specs.Enclosure.{Holds}
use Rattle.number_model.proofs.Ints.{as_diff, same_diff, ring}
use Rattle.number_model.proofs.Same.{same_refl, same_add, Holds-same}
use Rattle.water_model.specs.Region1.{region1}
use Rattle.water_model.specs.Water.{x_of}
use Rattle.table_model.specs.Tables.{eighth_of, volume_up}
use Rattle.region1_algebra.specs.TableForms.{y_offset, constant_of}
use Rattle.region1_ranges.proofs.Ends.{Ends, Between, Between-fraction, Between-plus, Between-times, Between-wider, le_from, nothing, of_fraction, plus, times, raised}
use Rattle.region1_ranges.proofs.Variables.{x_ends, x_between}
use Rattle.region1_ranges.proofs.Coefficients.{row_ends, sum_where_ends, up_ends, Between-up}

unfoldable pub constant_ends : Ends
constant_ends = plus (up_ends x_ends 0) (times (of_fraction (neg_ℚ (y_offset *ℚ part 4 (lit< tt)))) (up_ends x_ends 1))

constant_least : le_z (pos 0) constant_ends.lo ≡ true
unfolding constant_ends up_ends sum_where_ends nothing row_ends times plus of_fraction raised x_ends region1
constant_least = refl

constant_most : le_z constant_ends.hi (pos (114 * 2 ^ 56 / 10000)) ≡ true
unfolding constant_ends up_ends sum_where_ends nothing row_ends times plus of_fraction raised x_ends region1
constant_most = refl

negated : (a b d : Fraction) → (neg_ℚ (a *ℚ d) *ℚ b) ≈ neg_ℚ (a *ℚ (b *ℚ d))
negated a b d = record { crossed = law a.num b.num d.num a.den b.den d.den }
  where
    law : (m e g : ℤ) (k l n : ℕ) → (neg_ℤ (m *ℤ g) *ℤ e) *ℤ pos (k * (l * n)) ≡ neg_ℤ (m *ℤ (e *ℤ g)) *ℤ pos ((k * n) * l)
    law m e g k l n = rw (as_diff m, as_diff e, as_diff g) (simp ring (same_diff _ _ _ _ (omega arith)))

pub constant_between : (x : Fraction) → Between x_ends (eighth_of x) → Between constant_ends (constant_of x)
unfolding constant_ends
constant_between x p = record {
  holds = Holds-same (same_add (same_refl (volume_up x 0)) (negated y_offset (volume_up x 1) (part 4 (lit< tt))))
      (Between-plus (up_ends x_ends 0) _ (volume_up x 0) _ (Between-up x_ends x 0 p)
      (Between-times (of_fraction (neg_ℚ (y_offset *ℚ part 4 (lit< tt)))) (up_ends x_ends 1) _ (volume_up x 1) (Between-fraction (neg_ℚ (y_offset *ℚ part 4 (lit< tt)))) (Between-up x_ends x 1 p))).holds;
}

pub constant_within : (p : ℕ) → 1100 ≤ p → p ≤ 4000 → Holds 56 (pos 0) (pos (114 * 2 ^ 56 / 10000)) (constant_of (x_of p))
constant_within p low high =
    (Between-wider constant_ends _ _ _ (le_from _ _ constant_least) (le_from _ _ constant_most) (constant_between (x_of p) (x_between p low high))).holds
