-- Comparisons with resistances, as they are computed.
use Rattle.std.proofs.Common.{◌≡◌, ℕ, ◌+◌, ◌*◌, ◌^◌, ◌<◌, ◌≤◌, ◌↔◌, ℤ, pos, ◌*ℤ◌, ◌-ℤ◌, ◌≤ℤ◌, ◌<ℤ◌, to_z, of_z, IsTrue, arith}
use Rattle.std.specs.Int.{w128}
use Rattle.std.proofs.lemmas.Int.{ints}
use Rattle.std.specs.Int.Signed.{le_z, lt_z}

abbrev pub twice : ℤ → ℤ
twice z = to_z w128 (of_z w128 (pos 2 *ℤ to_z w128 (of_z w128 z)))

twice_is : (z : ℤ) (n : ℕ) → z ≡ pos n → z ≤ℤ pos (18 * 10 ^ 36) → twice z ≡ pos (2 * n)
twice_is z n is limit = omega (arith, ints)

pub below : (target z : ℤ) (n : ℕ) → to_z w128 (of_z w128 target) ≡ target → z ≡ pos n → z ≤ℤ pos (18 * 10 ^ 36)
    → IsTrue (lt_z (to_z w128 (of_z w128 target)) (twice z)) ↔ (target <ℤ pos (2 * n))
below target z n fits is limit = rw (fits, twice_is z n is limit) (λ t. grind (arith, ints), λ h. grind (arith, ints))

pub at_most : (target z : ℤ) (n : ℕ) → to_z w128 (of_z w128 target) ≡ target → z ≡ pos n → z ≤ℤ pos (18 * 10 ^ 36)
    → IsTrue (le_z (twice z) (to_z w128 (of_z w128 target))) ↔ (pos (2 * n) ≤ℤ target)
at_most target z n fits is limit = rw (fits, twice_is z n is limit) (λ t. grind (arith, ints), λ h. grind (arith, ints))

-- r lies below s, of which a unit is left
pub below_top : (r s : ℕ) (w z : ℤ) → r < 2 ^ 32 → w ≡ pos r → z ≡ pos s → z ≤ℤ pos (18 * 10 ^ 36)
    → IsTrue (le_z (to_z w128 (of_z w128 (pos (10 ^ 28) *ℤ to_z w128 (of_z w128 w)))) (to_z w128 (of_z w128 (to_z w128 (of_z w128 z) -ℤ pos (10 ^ 28)))))
    ↔ (10 ^ 28 * r + 10 ^ 28 ≤ s)
below_top r s w z fits w_is z_is limit =
    let left : to_z w128 (of_z w128 (pos (10 ^ 28) *ℤ to_z w128 (of_z w128 w))) ≡ pos (10 ^ 28 * r) = omega (arith, ints) in
    let right : to_z w128 (of_z w128 (to_z w128 (of_z w128 z) -ℤ pos (10 ^ 28))) ≡ pos s -ℤ pos (10 ^ 28) = omega (arith, ints) in
    rw (left, right) (λ t. grind (arith, ints), λ h. grind (arith, ints))
