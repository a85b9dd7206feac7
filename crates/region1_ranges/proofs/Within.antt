-- The ranges of the volume and of the enthalpy, from 1,100 to 4,000 kPa and from 0 to 180 °C. The volume
-- is computed in one piece, the enthalpy in pieces of 3 °C, since its terms cancel.
use Rattle.std.proofs.Common.{◌≡◌, ℕ, suc, ◌+◌, ◌*◌, ◌/◌, ◌^◌, ◌≤◌, min, arith, refl, lit<, lit≤, map, ℤ, pos, negsuc, neg_ℤ, ◌+ℤ◌, ◌*ℤ◌, ◌≤ℤ◌, ◌<◌, Bool, true}
use Rattle.std.proofs.lemmas.Int.{ints}
use Rattle.std.proofs.lemmas.Bool.{and_parts, agree_below, agree_below_at}
use Rattle.std.specs.Prelude.{◌&&◌}
use lib.Signed.{le_z}
use Rattle.number_model.specs.Fraction.{Fraction, ◌*ℚ◌, part, inverse}
use Rattle.number_model.specs.Enclosure.{Holds, SpanHolds, nanodegrees}
use Rattle.number_model.proofs.Same.{Holds-same}
use Rattle.water_model.specs.Region1.{region1}
use Rattle.water_model.specs.Water.{kelvin, x_of, y_of, g_tau, volume, enthalpy}
use Rattle.table_model.specs.Tables.{volume_up, volume_down}
use Rattle.dec_tables.specs.Coefficients.{term_of}
use Rattle.region1_algebra.specs.Terms.{tau_derivative_of}
use Rattle.region1_algebra.specs.Forms.{volume_factor, heat_factor, u_of, r_of}
use Rattle.region1_algebra.specs.TableForms.{linear_of, higher_of, constant_of, falling_of, table_volume}
use Rattle.region1_algebra.proofs.Rows.{tau_terms}
use Rattle.region1_algebra.proofs.Factors.{enthalpy_is}
use Rattle.region1_algebra.proofs.TableForms.{volume_by_tables}
use Rattle.region1_ranges.proofs.Ends.{Ends, Between, Between-fraction, Between-plus, Between-times, Between-sum, Between-wider, le_from, nothing, of_fraction, plus, times, raised, y_ends, term_ends, sum_ends}
use Rattle.region1_ranges.proofs.Variables.{x_ends, u_ends, r_ends, q_ends, z_ends, x_between, u_between, r_between, q_between, z_between}
use Rattle.region1_ranges.proofs.Coefficients.{row_ends, sum_where_ends, up_ends, down_ends, polynomial_ends, Between-up, Between-down, Between-polynomial}
use Rattle.region1_ranges.proofs.Constant.{constant_ends, constant_between}

nano_in : (lo hi n : ℕ) → lo ≤ n → n ≤ hi → SpanHolds lo hi (nanodegrees n)
nano_in lo hi n h k = record { low = record { crossed = omega (arith, ints, h) }; high = record { crossed = omega (arith, ints, k) } }

pub kelvin_above : (lo hi : ℕ) (t : Fraction) → SpanHolds lo hi t → pos 1 ≤ℤ (kelvin t).num
kelvin_above lo hi t s = above t.num t.den lo t.positive s.low.crossed
  where
    above : (z : ℤ) (d lo : ℕ) → 0 < d → (pos lo *ℤ pos d) ≤ℤ (z *ℤ pos 1000000000) → pos 1 ≤ℤ (z *ℤ pos 100 +ℤ pos 27315 *ℤ pos d)
    above (pos n) d lo p h = omega (arith, ints, p)
    above (negsuc n) d lo p h = absurd (omega (arith, ints, h))

-- ---- the volume, by the form that is evaluated
all_q : Ends
all_q = q_ends 0 180000000000

all_z : Ends
all_z = z_ends 0 180000000000

linear_ends : Ends
linear_ends = times (up_ends x_ends 1) (of_fraction (part 4 (lit< tt)))

falling_ends : Ends
falling_ends = plus constant_ends (polynomial_ends (down_ends x_ends) 42 all_z)

higher_ends : Ends
higher_ends = times (times (polynomial_ends (λ k. up_ends x_ends (suc (suc k))) 16 all_q) all_q) (of_fraction (part 4 (lit< tt)))

volume_ends : Ends
volume_ends =
    times (of_fraction volume_factor)
    (plus (plus linear_ends (times falling_ends (u_ends 0 180000000000))) (times higher_ends (r_ends 0 180000000000)))

volume_least : le_z (pos (95 * 2 ^ 56 / 100000)) volume_ends.lo ≡ true
unfolding volume_ends linear_ends falling_ends higher_ends all_q all_z constant_ends polynomial_ends up_ends down_ends sum_where_ends row_ends nothing times plus of_fraction raised x_ends u_ends r_ends q_ends z_ends region1
volume_least = refl

volume_most : le_z volume_ends.hi (pos (118 * 2 ^ 56 / 100000)) ≡ true
unfolding volume_ends linear_ends falling_ends higher_ends all_q all_z constant_ends polynomial_ends up_ends down_ends sum_where_ends row_ends nothing times plus of_fraction raised x_ends u_ends r_ends q_ends z_ends region1
volume_most = refl

module _ (p : ℕ) (low : 1100 ≤ p) (high : p ≤ 4000) where
  linear_between : Between linear_ends (linear_of (x_of p))
  unfolding linear_ends
  linear_between =
      Between-times (up_ends x_ends 1) (of_fraction (part 4 (lit< tt))) (volume_up (x_of p) 1) (part 4 (lit< tt))
      (Between-up x_ends (x_of p) 1 (x_between p low high)) (Between-fraction (part 4 (lit< tt)))

  module _ (t : Fraction) (s : SpanHolds 0 180000000000 t) where
    q_all : Between all_q (y_of t *ℚ part 4 (lit< tt))
    unfolding all_q
    q_all = q_between 0 180000000000 (omega arith) (lit≤ tt) t s

    z_all : Between all_z (inverse (y_of t))
    unfolding all_z
    z_all = z_between 0 180000000000 (omega arith) (lit≤ tt) t s

    falling_between : Between falling_ends (falling_of (x_of p) (inverse (y_of t)))
    unfolding falling_ends
    falling_between =
        Between-plus constant_ends _ (constant_of (x_of p)) _ (constant_between (x_of p) (x_between p low high))
        (Between-polynomial (down_ends x_ends) (volume_down (x_of p)) 42 all_z (inverse (y_of t)) (λ k. Between-down x_ends (x_of p) k (x_between p low high)) z_all)

    higher_between : Between higher_ends (higher_of (x_of p) (y_of t *ℚ part 4 (lit< tt)))
    unfolding higher_ends
    higher_between =
        Between-times _ (of_fraction (part 4 (lit< tt))) _ (part 4 (lit< tt))
        (Between-times _ all_q _ (y_of t *ℚ part 4 (lit< tt))
        (Between-polynomial (λ k. up_ends x_ends (suc (suc k))) (λ k. volume_up (x_of p) (suc (suc k))) 16 all_q (y_of t *ℚ part 4 (lit< tt)) (λ k. Between-up x_ends (x_of p) (suc (suc k)) (x_between p low high)) q_all)
        q_all)
        (Between-fraction (part 4 (lit< tt)))

    volume_between : Between volume_ends (volume_factor *ℚ table_volume (x_of p) (y_of t) (u_of t) (r_of t))
    unfolding volume_ends
    volume_between =
        Between-times (of_fraction volume_factor) _ volume_factor _ (Between-fraction volume_factor)
        (Between-plus _ _ _ _
        (Between-plus linear_ends _ (linear_of (x_of p)) _ linear_between
        (Between-times falling_ends (u_ends 0 180000000000) _ (u_of t) falling_between (u_between 0 180000000000 (omega arith) (lit≤ tt) t s)))
        (Between-times higher_ends (r_ends 0 180000000000) _ (r_of t) higher_between (r_between 0 180000000000 (omega arith) (lit≤ tt) t s)))

    pub volume_everywhere : Holds 56 (pos (95 * 2 ^ 56 / 100000)) (pos (118 * 2 ^ 56 / 100000)) (volume p t)
    volume_everywhere =
        Holds-same (volume_by_tables p t (kelvin_above 0 180000000000 t s))
        (Between-wider volume_ends _ _ _ (le_from _ _ volume_least) (le_from _ _ volume_most) volume_between).holds

  pub volume_within : (n : ℕ) → n ≤ 180000000000 → Holds 56 (pos (95 * 2 ^ 56 / 100000)) (pos (118 * 2 ^ 56 / 100000)) (volume p (nanodegrees n))
  volume_within n top = volume_everywhere (nanodegrees n) (nano_in 0 180000000000 n (omega arith) top)

-- ---- the enthalpy
first_of : ℕ → ℕ
first_of k = 3000000000 * k

last_of : ℕ → ℕ
last_of k = min (3000000000 * (k + 1)) 180000000000

pieces_ordered : (k : ℕ) → k ≤ 60 → first_of k ≤ last_of k
unfolding first_of last_of
pieces_ordered k h = omega (arith, h)

pieces_top : (k : ℕ) → last_of k ≤ 180000000000
unfolding last_of
pieces_top k = omega arith

heat_ends : ℕ → Ends
heat_ends k = sum_ends tau_derivative_of x_ends (q_ends (first_of k) (last_of k)) (z_ends (first_of k) (last_of k)) (map term_of region1)

heat_in_range : ℕ → Bool
heat_in_range k = le_z (neg_ℤ (pos (28 * 2 ^ 56 / 100))) (heat_ends k).lo && le_z (heat_ends k).hi (pos (148 * 2 ^ 56 / 100))

every_piece : agree_below heat_in_range (λ _. true) 61 ≡ true
unfolding heat_in_range heat_ends first_of last_of nothing times plus of_fraction sum_ends term_ends y_ends raised x_ends q_ends z_ends region1
every_piece = refl

-- h from g_tau
scaled_ends : Ends
scaled_ends = times (of_fraction heat_factor) (record { lo = neg_ℤ (pos (28 * 2 ^ 56 / 100)); hi = pos (148 * 2 ^ 56 / 100) })

heat_least : le_z (neg_ℤ (pos (190 * 2 ^ 56))) scaled_ends.lo ≡ true
unfolding scaled_ends times of_fraction
heat_least = refl

heat_most : le_z scaled_ends.hi (pos (960 * 2 ^ 56)) ≡ true
unfolding scaled_ends times of_fraction
heat_most = refl

module _ (p : ℕ) (low : 1100 ≤ p) (high : p ≤ 4000) (n : ℕ) (top : n ≤ 180000000000) where
  in_piece : SpanHolds (first_of (n / 3000000000)) (last_of (n / 3000000000)) (nanodegrees n)
  unfolding first_of last_of
  in_piece = nano_in (3000000000 * (n / 3000000000)) (min (3000000000 * (n / 3000000000 + 1)) 180000000000) n (omega arith) (omega arith)

  heat_between : Between (heat_ends (n / 3000000000)) (g_tau (x_of p) (y_of (nanodegrees n)))
  unfolding heat_ends
  heat_between =
      let order : first_of (n / 3000000000) ≤ last_of (n / 3000000000) = pieces_ordered (n / 3000000000) (omega arith) in
      record {
        holds = Holds-same (tau_terms (x_of p) (y_of (nanodegrees n)))
            (Between-sum tau_derivative_of x_ends _ _ (x_of p) (y_of (nanodegrees n)) (map term_of region1) (x_between p low high)
            (q_between (first_of (n / 3000000000)) (last_of (n / 3000000000)) order (pieces_top (n / 3000000000)) (nanodegrees n) in_piece)
            (z_between (first_of (n / 3000000000)) (last_of (n / 3000000000)) order (pieces_top (n / 3000000000)) (nanodegrees n) in_piece)).holds;
      }

  pub enthalpy_within : Holds 56 (neg_ℤ (pos (190 * 2 ^ 56))) (pos (960 * 2 ^ 56)) (enthalpy p (nanodegrees n))
  unfolding heat_in_range scaled_ends
  enthalpy_within =
      let tests = and_parts _ _ (agree_below_at heat_in_range (λ _. true) 61 (n / 3000000000) every_piece (omega arith)) in
      let g = Between-wider (heat_ends (n / 3000000000)) (neg_ℤ (pos (28 * 2 ^ 56 / 100))) (pos (148 * 2 ^ 56 / 100)) (g_tau (x_of p) (y_of (nanodegrees n))) (le_from _ _ tests.0) (le_from _ _ tests.1) heat_between in
      Holds-same (enthalpy_is p (nanodegrees n))
      (Between-wider scaled_ends _ _ _ (le_from _ _ heat_least) (le_from _ _ heat_most)
      (Between-times (of_fraction heat_factor) (record { lo = neg_ℤ (pos (28 * 2 ^ 56 / 100)); hi = pos (148 * 2 ^ 56 / 100) }) heat_factor (g_tau (x_of p) (y_of (nanodegrees n))) (Between-fraction heat_factor) g)).holds
