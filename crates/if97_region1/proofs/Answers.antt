-- The ranges of an enclosure that is narrow and holds a number in range.
use Rattle.std.proofs.Common.{ℕ, ◌+◌, ◌-◌, ◌*◌, ◌/◌, ◌^◌, ◌≤◌, arith, lit<, ℤ, pos, neg_ℤ, ◌*ℤ◌, ◌≤ℤ◌}
use Rattle.std.proofs.lemmas.Int.{ints}
use lib.IntN.{◌-ℤ◌}
use Rattle.number_model.specs.Fraction.{Fraction}
use Rattle.number_model.specs.Enclosure.{Holds, SpanHolds, nanodegrees}
use Rattle.number_model.proofs.Order.{≤ℚ_trans}
use Rattle.number_model.proofs.Ints.{le_of_mul-le_pos}
use Rattle.water_model.specs.Water.{volume, enthalpy}
use Rattle.region1_ranges.proofs.Within.{volume_within, enthalpy_within}

first_in : (lo hi : ℕ) → lo ≤ hi → SpanHolds lo hi (nanodegrees lo)
first_in lo hi h = record { low = record { crossed = omega (arith, ints) }; high = record { crossed = omega (arith, ints, h) } }

-- two enclosures of one number overlap
pub record Overlap (lo hi L H : ℤ) : Type 0 where
  pub low : L ≤ℤ hi
  pub high : lo ≤ℤ H

pub overlap : (lo hi L H : ℤ) (x : Fraction) → Holds 56 lo hi x → Holds 56 L H x → Overlap lo hi L H
overlap lo hi L H x p q = record {
  low = le_of_mul-le_pos (2 ^ 56) (lit< tt) (≤ℚ_trans q.low p.high).crossed;
  high = le_of_mul-le_pos (2 ^ 56) (lit< tt) (≤ℚ_trans p.low q.high).crossed;
}

volume_ends : (lo hi : ℤ) (d : ℕ) → d ≤ 3000 → ((hi -ℤ lo) *ℤ pos (10 ^ 15)) ≤ℤ pos ((1000 + 3 * d) * 2 ^ 56) → Overlap lo hi (pos (95 * 2 ^ 56 / 100000)) (pos (118 * 2 ^ 56 / 100000))
    → (pos (9 * 2 ^ 56) ≤ℤ (lo *ℤ pos 10000)) × ((hi *ℤ pos 10000) ≤ℤ pos (14 * 2 ^ 56))
volume_ends lo hi d few width o =
    let narrow : (hi -ℤ lo) ≤ℤ pos 1000000 = omega (arith, ints, width, few) in
    (omega (arith, ints, narrow, o.low), omega (arith, ints, narrow, o.high))

pub volume_range : (p lo hi : ℕ) (l h : ℤ) → 1100 ≤ p → p ≤ 4000 → lo ≤ hi → hi ≤ 180000000000 → hi - lo ≤ 3000
    → ((h -ℤ l) *ℤ pos (10 ^ 15)) ≤ℤ pos ((1000 + 3 * (hi - lo)) * 2 ^ 56) → ((t : Fraction) → SpanHolds lo hi t → Holds 56 l h (volume p t))
    → (pos (9 * 2 ^ 56) ≤ℤ (l *ℤ pos 10000)) × ((h *ℤ pos 10000) ≤ℤ pos (14 * 2 ^ 56))
volume_range p lo hi l h low high order top few width holds =
    volume_ends l h (hi - lo) few width (overlap l h _ _ (volume p (nanodegrees lo)) (holds (nanodegrees lo) (first_in lo hi order)) (volume_within p low high lo (omega (arith, order, top))))

-- at the scale 2^48
record CoarseOverlap (lo hi L H : ℤ) : Type 0 where
  low : L ≤ℤ (hi *ℤ pos (2 ^ 8))
  high : (lo *ℤ pos (2 ^ 8)) ≤ℤ H

coarse_overlap : (lo hi L H : ℤ) (x : Fraction) → Holds 48 lo hi x → Holds 56 L H x → CoarseOverlap lo hi L H
coarse_overlap lo hi L H x p q =
    let low = (≤ℚ_trans q.low p.high).crossed in
    let high = (≤ℚ_trans p.low q.high).crossed in
    record {
      low = omega (arith, ints, low);
      high = omega (arith, ints, high);
    }

enthalpy_ends : (lo hi : ℤ) (d : ℕ) → d ≤ 3000 → ((hi -ℤ lo) *ℤ pos (10 ^ 9)) ≤ℤ pos ((1000 + 150 * d) * 2 ^ 48) → CoarseOverlap lo hi (neg_ℤ (pos (190 * 2 ^ 56))) (pos (960 * 2 ^ 56))
    → (neg_ℤ (pos (200 * 2 ^ 48)) ≤ℤ lo) × (hi ≤ℤ pos (1000 * 2 ^ 48))
enthalpy_ends lo hi d few width o =
    let narrow : (hi -ℤ lo) ≤ℤ pos (2 ^ 48) = omega (arith, ints, width, few) in
    (omega (arith, ints, narrow, o.low), omega (arith, ints, narrow, o.high))

pub enthalpy_range : (p lo hi : ℕ) (l h : ℤ) → 1100 ≤ p → p ≤ 4000 → lo ≤ hi → hi ≤ 180000000000 → hi - lo ≤ 3000
    → ((h -ℤ l) *ℤ pos (10 ^ 9)) ≤ℤ pos ((1000 + 150 * (hi - lo)) * 2 ^ 48) → ((t : Fraction) → SpanHolds lo hi t → Holds 48 l h (enthalpy p t))
    → (neg_ℤ (pos (200 * 2 ^ 48)) ≤ℤ l) × (h ≤ℤ pos (1000 * 2 ^ 48))
enthalpy_range p lo hi l h low high order top few width holds =
    enthalpy_ends l h (hi - lo) few width (coarse_overlap l h _ _ (enthalpy p (nanodegrees lo)) (holds (nanodegrees lo) (first_in lo hi order)) (enthalpy_within p low high lo (omega (arith, order, top))))
