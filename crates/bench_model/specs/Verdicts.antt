-- The verdicts of a test bench. The maximum permissible errors of the calculator and of the pair of temperature sensors are
-- those of EN 1434-1. Those of the flow sensor are this project's own. A value exactly at a limit passes.
use Rattle.std.specs.Prelude.{ℕ, ◌+◌, ◌-◌, ◌*◌, ◌==◌, Bool, true, false, ◌&&◌, if◌then◌else◌, nat_lt, nat_le, pos, ◌-ℤ◌, ◌*ℤ◌, int_lt}
use Rattle.number_model.specs.Fraction.{Fraction, ◌-ℚ◌, ◌*ℚ◌, whole}
use Rattle.water_model.specs.Decimal.{integer}

-- whether what was indicated lies within its limits, above or below them
pub data Verdict : Type 0 where
  Pass : Verdict
  High : Verdict
  Low : Verdict

-- High where the first test holds, else Low where the second does, else Pass
abbrev pub verdict_of : (is_high is_low : Bool) → Verdict
verdict_of true is_low = High
verdict_of false true = Low
verdict_of false false = Pass

-- whether x < y
abbrev pub below_ℚ : Fraction → Fraction → Bool
below_ℚ x y = int_lt (x.num *ℤ pos y.den) (y.num *ℤ pos x.den)

-- The calculator's verdict, where it indicated the energy E for L litres that gave off q each, at the temperature difference
-- D with the least difference m. The limits of E are L q plus and minus (0.5 + m / D) % of it. E and q are in one unit, and
-- so are D and m.
unfoldable pub calculator_verdict : (m D L E : ℕ) → Fraction → Verdict
calculator_verdict m D L E q = verdict_of
    (below_ℚ (whole ((201 * D + 2 * m) * L) *ℚ q) (whole (200 * D * E)))
    (below_ℚ (whole (200 * D * E)) (integer ((pos (199 * D) -ℤ pos (2 * m)) *ℤ pos L) *ℚ q))

-- The sensor pair's verdict, where it read the temperature difference d in place of D with the least difference m. The
-- limits of d are D plus and minus (0.5 + 3 m / D) % of it. All are in one unit.
unfoldable pub pair_verdict : (m D : ℕ) → Fraction → Verdict
pair_verdict m D d = verdict_of
    (below_ℚ (whole (D + 6 * m)) (whole 200 *ℚ (d -ℚ whole D)))
    (below_ℚ (whole (D + 6 * m)) (whole 200 *ℚ (whole D -ℚ d)))

-- how far two numbers are apart
abbrev pub distance : ℕ → ℕ → ℕ
distance a b = (a - b) + (b - a)

-- what the permanent flow over the flow adds to a flow sensor's limit, in 0.01 %, beside the number of its class in percent
abbrev pub small_flow_share : ℕ → ℕ
small_flow_share class = if class == 1 then 1 else if class == 2 then 2 else 5

-- the greatest limit of a flow sensor, in 0.1 %
abbrev pub greatest_limit : ℕ → ℕ
greatest_limit class = if class == 1 then 35 else 50

-- whether a flow sensor's limits at the flow q, with the permanent flow qp, hold the indicated volume I for the reference R
abbrev pub is_within_flow_limits : (class qp q R I : ℕ) → Bool
is_within_flow_limits class qp q R I =
    nat_le (10000 * q * distance I R) ((100 * class * q + small_flow_share class * qp) * R)
    && nat_le (1000 * distance I R) (greatest_limit class * R)

-- the flow sensor's verdict
abbrev pub flow_verdict : (class qp q R I : ℕ) → Verdict
flow_verdict class qp q R I =
    if is_within_flow_limits class qp q R I then Pass else if nat_lt R I then High else Low
