-- Whole numbers as differences of naturals, so that `simp` and `omega` prove the laws of a ring.
use Rattle.std.proofs.Common.{◌≡◌, ℕ, suc, ◌+◌, ◌*◌, ◌<◌, ◌≤◌, ap, arith, ℤ, pos, negsuc, ◌+ℤ◌, ◌*ℤ◌, neg_ℤ, ◌≤ℤ◌}
use Rattle.std.proofs.lemmas.Int.{ints}
use lib.IntN.{◌-ℤ◌}
use Rattle.std.proofs.Math.Nat.{mul-le-mul_right, le_of_mul-le-mul_right}
use borrow.Author.Differences.{up, down, at_most_in, le_out}

-- p - m
pub diff : ℕ → ℕ → ℤ
diff p m = pos p -ℤ pos m

pub diff_parts : (p m : ℕ) → up (diff p m) + m ≡ down (diff p m) + p
unfolding diff
diff_parts p m = omega (arith, ints)

pub as_diff : (z : ℤ) → z ≡ diff (up z) (down z)
unfolding diff
as_diff z = omega (arith, ints)

pub same_diff : (p m q n : ℕ) → p + n ≡ q + m → diff p m ≡ diff q n
unfolding diff
same_diff p m q n h = omega (arith, ints)

pub pos-diff : (n : ℕ) → pos n ≡ diff n 0
unfolding diff
pos-diff n = omega (arith, ints)

pub diff-add : (p m q n : ℕ) → diff p m +ℤ diff q n ≡ diff (p + q) (m + n)
unfolding diff
diff-add p m q n = omega (arith, ints)

pub diff-neg : (p m : ℕ) → neg_ℤ (diff p m) ≡ diff m p
unfolding diff
diff-neg p m = omega (arith, ints)

pub diff-mul : (p m q n : ℕ) → diff p m *ℤ diff q n ≡ diff (p * q + m * n) (p * n + m * q)
diff-mul p m q n =
    let c = up (diff q n) in
    let d = down (diff q n) in
    omega (arith, ints, diff_parts (p * q + m * n) (p * n + m * q), ap (λ t. t * c) (diff_parts p m), ap (λ t. t * d) (diff_parts p m), ap (λ t. p * t) (diff_parts q n), ap (λ t. m * t) (diff_parts q n))

pub le_diff : (p m q n : ℕ) → p + n ≤ q + m → diff p m ≤ℤ diff q n
unfolding diff
le_diff p m q n h = omega (arith, ints)

pub ruleset diffs = (pos-diff, diff-add, diff-neg, diff-mul)

-- the same where one side is a natural, which keeps the products short
pub diff-mul_pos : (p m n : ℕ) → diff p m *ℤ pos n ≡ diff (p * n) (m * n)
diff-mul_pos p m n = simp diffs (same_diff _ _ _ _ (omega arith))

pub pos-mul_diff : (n p m : ℕ) → pos n *ℤ diff p m ≡ diff (n * p) (n * m)
pos-mul_diff n p m = simp diffs (same_diff _ _ _ _ (omega arith))

pub diff-add_pos : (p m n : ℕ) → diff p m +ℤ pos n ≡ diff (p + n) m
diff-add_pos p m n = simp diffs (same_diff _ _ _ _ (omega arith))

pub pos-add_diff : (n p m : ℕ) → pos n +ℤ diff p m ≡ diff (n + p) m
pos-add_diff n p m = simp diffs (same_diff _ _ _ _ (omega arith))

pub neg-pos : (n : ℕ) → neg_ℤ (pos n) ≡ diff 0 n
unfolding diff
neg-pos n = omega (arith, ints)

pub ruleset ring = (diff-mul, diff-mul_pos, pos-mul_diff, diff-add, diff-add_pos, pos-add_diff, diff-neg, neg-pos)

pub *ℤ_assoc : (a b c : ℤ) → (a *ℤ b) *ℤ c ≡ a *ℤ (b *ℤ c)
*ℤ_assoc a b c = rw (as_diff a, as_diff b, as_diff c) (simp diffs (same_diff _ _ _ _ (omega arith)))

pub *ℤ_swap : (a : ℤ) (m n : ℕ) → (a *ℤ pos m) *ℤ pos n ≡ (a *ℤ pos n) *ℤ pos m
*ℤ_swap a m n = rw (as_diff a) (simp ring (same_diff _ _ _ _ (omega arith)))

pub neg-*ℤ : (a b : ℤ) → neg_ℤ a *ℤ b ≡ neg_ℤ (a *ℤ b)
neg-*ℤ a b = rw (as_diff a, as_diff b) (simp diffs (same_diff _ _ _ _ (omega arith)))

-- ---- order
pub flip_le : {a b : ℤ} → a ≤ℤ b → neg_ℤ b ≤ℤ neg_ℤ a
flip_le h = omega (arith, ints)

pub ≤ℤ_trans : {a b c : ℤ} → a ≤ℤ b → b ≤ℤ c → a ≤ℤ c
≤ℤ_trans h k = omega (arith, ints)

pub antisym : {a b : ℤ} → a ≤ℤ b → b ≤ℤ a → a ≡ b
antisym h k = omega (arith, ints)

-- L + B = R + A, so that R - L = B - A
pub le_by : {a b l r : ℤ} → a ≤ℤ b → l +ℤ b ≡ r +ℤ a → l ≤ℤ r
le_by h e = omega (arith, ints)

pub mul-le_pos : {a b : ℤ} (n : ℕ) → a ≤ℤ b → (a *ℤ pos n) ≤ℤ (b *ℤ pos n)
mul-le_pos {a} {b} n h = omega (arith, ints, mul-le-mul_right n (le_out a b h))

pub le_of_mul-le_pos : {a b : ℤ} (n : ℕ) → 0 < n → (a *ℤ pos n) ≤ℤ (b *ℤ pos n) → a ≤ℤ b
le_of_mul-le_pos {a} {b} n p h =
    let scaled : (up a + down b) * n ≤ (up b + down a) * n = omega (arith, ints) in
    at_most_in a b (le_of_mul-le-mul_right scaled p)

pub mul-le_neg : {a b : ℤ} (n : ℕ) → a ≤ℤ b → (b *ℤ negsuc n) ≤ℤ (a *ℤ negsuc n)
mul-le_neg {a} {b} n h = omega (arith, ints, mul-le-mul_right (suc n) (le_out a b h))

pub mul-nonneg : (a b : ℤ) → pos 0 ≤ℤ a → pos 0 ≤ℤ b → pos 0 ≤ℤ (a *ℤ b)
mul-nonneg (pos m) (pos n) h k = omega (arith, ints)
mul-nonneg (pos m) (negsuc n) h k = absurd (omega (arith, ints))
mul-nonneg (negsuc m) b h k = absurd (omega (arith, ints))

pub recast : {a b l r : ℤ} → a ≤ℤ b → l ≡ a → r ≡ b → l ≤ℤ r
recast h e f = omega (arith, ints)

-- what holds at both ends of a range of factors holds within
pub between_low : (k x l h y : ℤ) → k ≤ℤ (l *ℤ x) → k ≤ℤ (h *ℤ x) → l ≤ℤ y → y ≤ℤ h → k ≤ℤ (y *ℤ x)
between_low k (pos n) l h y p q lo hi = ≤ℤ_trans p (mul-le_pos n lo)
between_low k (negsuc n) l h y p q lo hi = ≤ℤ_trans q (mul-le_neg n hi)

pub between_high : (k x l h y : ℤ) → (l *ℤ x) ≤ℤ k → (h *ℤ x) ≤ℤ k → l ≤ℤ y → y ≤ℤ h → (y *ℤ x) ≤ℤ k
between_high k (pos n) l h y p q lo hi = ≤ℤ_trans (mul-le_pos n hi) q
between_high k (negsuc n) l h y p q lo hi = ≤ℤ_trans (mul-le_neg n lo) p
