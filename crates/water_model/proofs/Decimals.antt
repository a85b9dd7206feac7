-- Products of decimal fractions and whole numbers.
use Rattle.std.proofs.Common.{◌≡◌, ℕ, suc, ◌*◌, ◌^◌, arith, ℤ, pos, negsuc, ◌*ℤ◌, neg_ℤ}
use Rattle.number_model.specs.Fraction.{◌*ℚ◌, neg_ℚ, ◌≈◌, whole}
use Rattle.number_model.proofs.Ints.{as_diff, same_diff, ring}
use Rattle.water_model.specs.Decimal.{decimal, integer}

pub neg_times : (m e : ℤ) (i : ℕ) → (neg_ℚ (decimal m e) *ℚ whole i) ≈ decimal (neg_ℤ (pos i *ℤ m)) e
neg_times m (pos e) i = record { crossed = law m (10 ^ e) i }
  where
    law : (m : ℤ) (d i : ℕ) → (neg_ℤ (m *ℤ pos d) *ℤ pos i) *ℤ pos 1 ≡ (neg_ℤ (pos i *ℤ m) *ℤ pos d) *ℤ pos (1 * 1)
    law m d i = rw (as_diff m) (simp ring (same_diff _ _ _ _ (omega arith)))
neg_times m (negsuc e) i = record { crossed = law m (10 ^ suc e) i }
  where
    law : (m : ℤ) (d i : ℕ) → (neg_ℤ m *ℤ pos i) *ℤ pos d ≡ neg_ℤ (pos i *ℤ m) *ℤ pos (d * 1)
    law m d i = rw (as_diff m) (simp ring (same_diff _ _ _ _ (omega arith)))

pub times_integer : (m e j : ℤ) → (decimal m e *ℚ integer j) ≈ decimal (j *ℤ m) e
times_integer m (pos e) j = record { crossed = law m j (10 ^ e) }
  where
    law : (m j : ℤ) (d : ℕ) → ((m *ℤ pos d) *ℤ j) *ℤ pos 1 ≡ ((j *ℤ m) *ℤ pos d) *ℤ pos (1 * 1)
    law m j d = rw (as_diff m, as_diff j) (simp ring (same_diff _ _ _ _ (omega arith)))
times_integer m (negsuc e) j = record { crossed = law m j (10 ^ suc e) }
  where
    law : (m j : ℤ) (d : ℕ) → (m *ℤ j) *ℤ pos d ≡ (j *ℤ m) *ℤ pos (d * 1)
    law m j d = rw (as_diff m, as_diff j) (simp ring (same_diff _ _ _ _ (omega arith)))
