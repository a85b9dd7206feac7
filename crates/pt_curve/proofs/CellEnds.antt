-- The two bisections give the ends of the cell.
use Rattle.std.proofs.Common.{◌≡◌, ℕ, ◌+◌, ◌-◌, ◌*◌, ◌^◌, ◌<◌, ◌≤◌, arith, ap, ℤ, pos, ◌+ℤ◌, ◌-ℤ◌, ◌*ℤ◌, to_z, of_z}
use Rattle.std.specs.Int.{w128}
use Rattle.std.proofs.lemmas.Int.{ints}
use Rattle.platinum_model.specs.Element.{Element, scaled_resistance}
use Rattle.platinum_model.specs.Sample.{IsInRange, AreCellEnds}
use Rattle.platinum_model.proofs.Curve.{IsRising}
use Rattle.platinum_model.proofs.Samples.{IsInRange-low}
use Rattle.platinum_model.proofs.Cells.{AreCellEnds-found}
use Rattle.pt_curve.specs.Steps.{IsLastStep}

one_step : (e : Element) (k : ℕ) → scaled_resistance e (1 * k) ≡ scaled_resistance e k
one_step e k = ap (λ n. scaled_resistance e n) (omega arith)

positive : (a r : ℕ) → a + 10 ^ 28 ≤ 10 ^ 28 * r → 0 < r
positive a r h = omega arith

pub ends_found : (e : Element) (r lo k : ℕ) (low high : ℤ) → IsRising e → IsInRange e r
    → low ≡ pos (10 ^ 28 * (2 * r - 1)) → high +ℤ pos 1 ≡ pos (10 ^ 28 * (2 * r + 1))
    → IsLastStep e low 1 180000000000 lo → IsLastStep e high 1 180000000000 k → AreCellEnds e r lo (k + 1)
ends_found e r lo k low high rising range low_is high_is first second =
    AreCellEnds-found e r lo k rising (positive (scaled_resistance e 0) r (IsInRange-low e r rising range)) first.inside second.inside
    (omega (arith, ints, low_is, first.reached, one_step e lo))
    (omega (arith, ints, low_is, first.passed, one_step e (lo + 1)))
    (omega (arith, ints, high_is, second.reached, one_step e k))
    (omega (arith, ints, high_is, second.passed, one_step e (k + 1)))

-- r - 1/2 and just below r + 1/2 microohms, in halves of 10^-28 microohms, as they are computed from the sample z
abbrev pub low_target : ℤ → ℤ
low_target z = to_z w128 (of_z w128 (to_z w128 (of_z w128 (pos (2 * 10 ^ 28) *ℤ to_z w128 (of_z w128 z))) -ℤ pos (10 ^ 28)))

abbrev pub high_target : ℤ → ℤ
high_target z = to_z w128 (of_z w128 (to_z w128 (of_z w128 (to_z w128 (of_z w128 (pos (2 * 10 ^ 28) *ℤ to_z w128 (of_z w128 z))) +ℤ pos (10 ^ 28))) -ℤ pos 1))

pub cell_ends : (e : Element) (r lo k : ℕ) (z : ℤ) → IsRising e → IsInRange e r → r < 2 ^ 32 → z ≡ pos r
    → IsLastStep e (low_target z) 1 180000000000 lo → IsLastStep e (high_target z) 1 180000000000 k → AreCellEnds e r lo (k + 1)
cell_ends e r lo k z rising range fits z_is first second =
    ends_found e r lo k (low_target z) (high_target z) rising range
    (omega (arith, ints, z_is, IsInRange-low e r rising range)) (omega (arith, ints, z_is)) first second
