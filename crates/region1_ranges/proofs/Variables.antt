-- The ends of the variables of region 1, from 1,100 to 4,000 kPa and from lo to hi nanodegrees.
use Rattle.std.proofs.Common.{ℕ, ◌+◌, ◌-◌, ◌*◌, ◌≤◌, lit<, pos}
use Rattle.number_model.specs.Fraction.{Fraction, ◌*ℚ◌, part, inverse}
use Rattle.number_model.specs.Enclosure.{SpanHolds}
use Rattle.interval_num.specs.Ends.{quotient_floor, quotient_ceil}
use Rattle.water_model.specs.Water.{x_of, y_of}
use Rattle.region1_algebra.specs.Forms.{u_of, r_of}
use Rattle.region1_terms.proofs.Temperatures.{u_holds, r_holds, y_holds, z_holds, x_within}
use Rattle.region1_ranges.proofs.Ends.{Ends, Between}

unfoldable pub x_ends : Ends
x_ends = record { lo = quotient_floor 56 (pos 113363) (pos 132240); hi = quotient_ceil 56 (pos 116263) (pos 132240) }

unfoldable pub u_ends : ℕ → ℕ → Ends
u_ends lo hi = record { lo = quotient_floor 56 (pos (273150000000 + lo)) (pos 1386000000000); hi = quotient_ceil 56 (pos (273150000000 + hi)) (pos 1386000000000) }

unfoldable pub r_ends : ℕ → ℕ → Ends
r_ends lo hi = record { lo = quotient_floor 56 (pos (1386000000000000 - 1222 * (273150000000 + hi))) (pos 1386000000000000); hi = quotient_ceil 56 (pos (1386000000000000 - 1222 * (273150000000 + lo))) (pos 1386000000000000) }

unfoldable pub q_ends : ℕ → ℕ → Ends
q_ends lo hi = record { lo = quotient_floor 56 (pos (1386000000000000 - 1222 * (273150000000 + hi))) (pos (4000 * (273150000000 + hi))); hi = quotient_ceil 56 (pos (1386000000000000 - 1222 * (273150000000 + lo))) (pos (4000 * (273150000000 + lo))) }

unfoldable pub z_ends : ℕ → ℕ → Ends
z_ends lo hi = record { lo = quotient_floor 56 (pos (1000 * (273150000000 + lo))) (pos (1386000000000000 - 1222 * (273150000000 + lo))); hi = quotient_ceil 56 (pos (1000 * (273150000000 + hi))) (pos (1386000000000000 - 1222 * (273150000000 + hi))) }

pub x_between : (p : ℕ) → 1100 ≤ p → p ≤ 4000 → Between x_ends (x_of p *ℚ part 8 (lit< tt))
unfolding x_ends
x_between p low high = record { holds = x_within p low high }

module _ (lo hi : ℕ) (order : lo ≤ hi) (top : hi ≤ 180000000000) (t : Fraction) (s : SpanHolds lo hi t) where
  pub q_between : Between (q_ends lo hi) (y_of t *ℚ part 4 (lit< tt))
  unfolding q_ends
  q_between = record { holds = y_holds lo hi order top t s }

  pub z_between : Between (z_ends lo hi) (inverse (y_of t))
  unfolding z_ends
  z_between = record { holds = z_holds lo hi order top t s }

  pub u_between : Between (u_ends lo hi) (u_of t)
  unfolding u_ends
  u_between = record { holds = u_holds lo hi order top t s }

  pub r_between : Between (r_ends lo hi) (r_of t)
  unfolding r_ends
  r_between = record { holds = r_holds lo hi order top t s }
