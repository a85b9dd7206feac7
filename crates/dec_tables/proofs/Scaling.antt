-- An enclosed coefficient times a power of x, brought to a coarser scale.
use Rattle.std.proofs.Common.{◌≡◌, ℕ, zero, suc, ◌+◌, ◌-◌, ◌*◌, ◌/◌, ◌^◌, ◌<◌, ◌≤◌, arith, lit<, ap, sym, refl, ℤ, pos, negsuc, neg_ℤ, ◌*ℤ◌, ◌+ℤ◌, ◌≤ℤ◌, unsigned_abs, true, nat_le}
use Rattle.std.proofs.lemmas.Int.{ints}
use Rattle.std.proofs.lemmas.Bool.{and_parts, leb-true}
use Rattle.std.proofs.lemmas.Nat.{pow-add, pow_pos}
use Rattle.std.specs.Prelude.{IsTrue, ◌&&◌}
use native.Mathlib.Nat.{lt-div-mul-add, one-le-pow, mul-le-mul_left}
use Rattle.number_model.specs.Fraction.{Fraction, ◌≤ℚ◌, ◌*ℚ◌, whole, power}
use Rattle.number_model.specs.Enclosure.{Holds}
use Rattle.number_model.specs.Rounding.{floor_div, ceil_div}
use Rattle.number_model.proofs.Ints.{flip_le, neg-*ℤ, as_diff, same_diff, ring, recast, ≤ℤ_trans, le_of_mul-le_pos}
use Rattle.number_model.proofs.Roundings.{floor_at_least, ceil_at_most, floor_div-scale_down, ceil_div-scale_down}
use Rattle.water_model.specs.Decimal.{decimal}
use Rattle.dec_tables.specs.declared.table.Term.{Term}
use Rattle.dec_tables.specs.Coefficients.{coefficient_of}
use Rattle.dec_tables.specs.Sizes.{unit_power_size, x_power_size, decimal_most, decimal_fits, enclosed_size, scaled_fits}
use Rattle.enclosure_sizes.specs.Size.{Size, SizedBy, power_size}
use Rattle.enclosure_sizes.proofs.Sizes.{Sized-near}

-- ---- powers
pub Holds-one : (x : Fraction) (n : ℕ) (lo hi : ℤ) → n ≡ 0 → lo ≡ pos (2 ^ 56) → hi ≡ pos (2 ^ 56) → Holds 56 lo hi (power x n)
unfolding power
Holds-one x n lo hi e f g = rw (e, f, g) (record { low = record { crossed = omega (arith, ints) }; high = record { crossed = omega (arith, ints) } })

pub unit_power_size-positive : (n : ℕ) (s : Size) → 0 < n → unit_power_size n s ≡ power_size (2 ^ 56) n s
unit_power_size-positive zero s h = absurd (omega arith)
unit_power_size-positive (suc n) s h = refl

-- ---- what `scaled_fits` tests
pub record ScaledFits (f s up : ℕ) (t : Term) : Type 0 where
  pub coarser : s ≤ f
  pub few : up ≤ 96
  pub i : t.i ≤ 64
  pub room : decimal_fits (unsigned_abs t.mantissa) t.exp10 (f + up) ≡ true
  pub product : (enclosed_size f up t).most * (x_power_size t.i).most ≤ (2 ^ 62 - 1) * 2 ^ f

pub scaled_parts : (f s up : ℕ) (t : Term) → IsTrue (scaled_fits f s up t) → ScaledFits f s up t
unfolding scaled_fits
scaled_parts f s up t h =
    let p = and_parts (nat_le s f && nat_le up 96 && nat_le t.i 64 && decimal_fits (unsigned_abs t.mantissa) t.exp10 (f + up)) (nat_le ((enclosed_size f up t).most * (x_power_size t.i).most) ((2 ^ 62 - 1) * 2 ^ f)) h in
    let q = and_parts (nat_le s f && nat_le up 96 && nat_le t.i 64) (decimal_fits (unsigned_abs t.mantissa) t.exp10 (f + up)) p.0 in
    let r = and_parts (nat_le s f && nat_le up 96) (nat_le t.i 64) q.0 in
    let u = and_parts (nat_le s f) (nat_le up 96) r.0 in
    record { coarser = leb-true _ _ u.0; few = leb-true _ _ u.1; i = leb-true _ _ r.1; room = q.1; product = leb-true _ _ p.1 }

-- the condition of `enclose`
pub room_size : (m k : ℕ) (e : ℤ) → decimal_fits m e k ≡ true → (decimal (pos m) e *ℚ whole (2 ^ k)) ≤ℚ whole (2 ^ 61)
room_size m k (pos e) h = let f : m * 10 ^ e * 2 ^ k ≤ 2 ^ 61 = leb-true _ _ h in record { crossed = omega (arith, ints, f) }
room_size m k (negsuc e) h = let f : m * 2 ^ k ≤ 2 ^ 61 * 10 ^ suc e = leb-true _ _ h in record { crossed = omega (arith, ints, f) }

-- ---- the size of an enclosed coefficient
under : (lo : ℤ) (n p : ℕ) → 0 < p → (lo *ℤ pos p) ≤ℤ pos n → lo ≤ℤ pos (n / p + 1)
under lo n p above h =
    let near : n ≤ (n / p + 1) * p = omega (arith, lt-div-mul-add {a = n} above) in
    le_of_mul-le_pos p above (omega (arith, ints, h, near))

over : (hi : ℤ) (n p : ℕ) → 0 < p → neg_ℤ (pos n) ≤ℤ (hi *ℤ pos p) → neg_ℤ (pos (n / p + 1)) ≤ℤ hi
over hi n p above h =
    let near : n ≤ (n / p + 1) * p = omega (arith, lt-div-mul-add {a = n} above) in
    le_of_mul-le_pos p above (≤ℤ_trans (flip (n / p + 1) p n near) h)
  where
    flip : (q p n : ℕ) → n ≤ q * p → (neg_ℤ (pos q) *ℤ pos p) ≤ℤ neg_ℤ (pos n)
    flip q p n h = recast (flip_le (up h)) (neg-*ℤ (pos q) (pos p)) refl
      where
        up : {a b : ℕ} → a ≤ b → pos a ≤ℤ pos b
        up h = omega (arith, ints)

abs_most : (z : ℤ) (n : ℕ) → (z *ℤ pos n) ≤ℤ pos (unsigned_abs z * n)
abs_most (pos a) n = omega (arith, ints)
abs_most (negsuc a) n = omega (arith, ints)

abs_least : (z : ℤ) (n : ℕ) → neg_ℤ (pos (unsigned_abs z * n)) ≤ℤ (z *ℤ pos n)
abs_least (pos a) n = omega (arith, ints)
abs_least (negsuc a) n = omega (arith, ints)

two_factors : (m : ℤ) (a b : ℕ) → (m *ℤ pos a) *ℤ pos b ≡ m *ℤ pos (a * b)
two_factors m a b = rw (as_diff m) (simp ring (same_diff _ _ _ _ (omega arith)))

three_factors : (m : ℤ) (a b c : ℕ) → ((m *ℤ pos a) *ℤ pos b) *ℤ pos c ≡ m *ℤ pos (a * b * c)
three_factors m a b c = rw (as_diff m) (simp ring (same_diff _ _ _ _ (omega arith)))

pub enclosed_ends : (f up : ℕ) (m e lo hi : ℤ) → Holds f lo hi (decimal m e *ℚ whole (2 ^ up)) → (lo ≤ℤ pos (decimal_most (unsigned_abs m) e (f + up))) × (neg_ℤ (pos (decimal_most (unsigned_abs m) e (f + up))) ≤ℤ hi)
enclosed_ends f up m (pos e) lo hi p =
    let two : 2 ^ (f + up) ≡ 2 ^ f * 2 ^ up = pow-add 2 f up in
    let all : unsigned_abs m * (10 ^ e * 2 ^ up * 2 ^ f) ≡ unsigned_abs m * 10 ^ e * 2 ^ (f + up) = omega (arith, ap (λ n. unsigned_abs m * 10 ^ e * n) two) in
    let low : (lo *ℤ pos (1 * 1)) ≤ℤ (m *ℤ pos (10 ^ e * 2 ^ up * 2 ^ f)) = recast p.low.crossed refl (sym (three_factors m (10 ^ e) (2 ^ up) (2 ^ f))) in
    let high : (m *ℤ pos (10 ^ e * 2 ^ up * 2 ^ f)) ≤ℤ (hi *ℤ pos (1 * 1)) = recast p.high.crossed (sym (three_factors m (10 ^ e) (2 ^ up) (2 ^ f))) refl in
    (omega (arith, ints, low, abs_most m (10 ^ e * 2 ^ up * 2 ^ f), all), omega (arith, ints, high, abs_least m (10 ^ e * 2 ^ up * 2 ^ f), all))
enclosed_ends f up m (negsuc e) lo hi p =
    let two : 2 ^ (f + up) ≡ 2 ^ f * 2 ^ up = pow-add 2 f up in
    let all : unsigned_abs m * (2 ^ up * 2 ^ f) ≡ unsigned_abs m * 2 ^ (f + up) = omega (arith, ap (λ n. unsigned_abs m * n) two) in
    let low : (lo *ℤ pos (10 ^ suc e * 1)) ≤ℤ (m *ℤ pos (2 ^ up * 2 ^ f)) = recast p.low.crossed refl (sym (two_factors m (2 ^ up) (2 ^ f))) in
    let high : (m *ℤ pos (2 ^ up * 2 ^ f)) ≤ℤ (hi *ℤ pos (10 ^ suc e * 1)) = recast p.high.crossed (sym (two_factors m (2 ^ up) (2 ^ f))) refl in
    let most = abs_most m (2 ^ up * 2 ^ f) in
    let least = abs_least m (2 ^ up * 2 ^ f) in (
      under lo (unsigned_abs m * 2 ^ (f + up)) (10 ^ suc e) (one-le-pow (suc e) 10 (lit< tt)) (omega (arith, ints, low, most, all)),
      over hi (unsigned_abs m * 2 ^ (f + up)) (10 ^ suc e) (one-le-pow (suc e) 10 (lit< tt)) (omega (arith, ints, high, least, all)),
    )

pub Sized-enclosed : (f up d : ℕ) (t : Term) (lo hi : ℤ) → hi ≤ℤ (lo +ℤ pos 4) → Holds f lo hi (coefficient_of t *ℚ whole (2 ^ up)) → SizedBy (enclosed_size f up t) d lo hi
Sized-enclosed f up d t lo hi w p =
    let ends = enclosed_ends f up t.mantissa t.exp10 lo hi p in
    Sized-near _ 4 d lo hi ends.0 ends.1 w

-- ---- a coarser scale keeps the range
coarse : (M n : ℕ) → 0 < n → M ≤ M * n
coarse M n h = let one : 1 ≤ n = omega arith in omega (arith, mul-le-mul_left M one)

pub down_low : (f s : ℕ) (z : ℤ) → s ≤ f → neg_ℤ (pos (2 ^ 62 - 1)) ≤ℤ z → neg_ℤ (pos (2 ^ 62 - 1)) ≤ℤ floor_div (z *ℤ pos (2 ^ s)) (2 ^ f)
down_low f s z h low =
    rw (floor_div-scale_down f s z h) (floor_at_least (2 ^ 62 - 1) (2 ^ (f - s)) z (pow_pos (f - s)) (omega (arith, ints, low, coarse (2 ^ 62 - 1) (2 ^ (f - s)) (pow_pos (f - s)))))

pub down_high : (f s : ℕ) (z : ℤ) → s ≤ f → z ≤ℤ pos (2 ^ 62 - 1) → ceil_div (z *ℤ pos (2 ^ s)) (2 ^ f) ≤ℤ pos (2 ^ 62 - 1)
down_high f s z h high =
    rw (ceil_div-scale_down f s z h) (ceil_at_most (2 ^ 62 - 1) (2 ^ (f - s)) z (pow_pos (f - s)) (omega (arith, ints, high, coarse (2 ^ 62 - 1) (2 ^ (f - s)) (pow_pos (f - s)))))
