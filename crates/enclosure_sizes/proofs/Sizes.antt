-- Sizes of products, powers and sums.
use Rattle.std.proofs.Common.{◌≡◌, ℕ, suc, zero, ◌+◌, ◌-◌, ◌*◌, ◌/◌, ◌^◌, ◌<◌, ◌≤◌, arith, refl, sym, ap, ℤ, pos, negsuc, ◌+ℤ◌, ◌*ℤ◌, ◌≤ℤ◌, neg_ℤ, unsigned_abs, true, false, cond, int_lt}
use Rattle.std.proofs.lemmas.Int.{ints, unsigned_abs-mul}
use Rattle.std.proofs.lemmas.Nat.{pow_pos}
use Rattle.std.specs.Int.{int_min, int_max}
use native.Mathlib.Nat.{mul-le-mul, mul-le-mul_right, mul-le-mul_left, le_trans, lt-div-mul-add, div-mul-le_self, le_refl, pow-zero, pow-suc, pow-le-pow_left, one-le-pow, le_of_mul-le-mul_right}
use lib.IntN.{◌-ℤ◌}
use Rattle.number_model.specs.Rounding.{floor_div, ceil_div}
use Rattle.number_model.proofs.Ints.{flip_le, neg-*ℤ, as_diff, same_diff, diffs, ≤ℤ_trans, mul-le_pos, le_of_mul-le_pos, recast}
use Rattle.number_model.proofs.Roundings.{floor_at_least, ceil_at_most, floor-le_ceil}
use Rattle.interval_num.proofs.EndsLemmas.{least_of-le_greatest}
use Rattle.interval_num.specs.Ends.{least_product, greatest_product, IsPower}
use Rattle.enclosure_sizes.specs.Size.{Size, Sized, SizedBy, parts, slope, product_most, product_line, power_most, power_line, product_size, sum_size}
use Rattle.enclosure_sizes.proofs.Ranges.{products_within, ends_low, ends_high}

abs_of : (n : ℕ) (z : ℤ) → neg_ℤ (pos n) ≤ℤ z → z ≤ℤ pos n → unsigned_abs z ≤ n
abs_of n z h k = omega (arith, ints)

at_most_abs : (z : ℤ) (n : ℕ) → unsigned_abs z ≤ n → z ≤ℤ pos n
at_most_abs (pos a) n h = omega (arith, ints)
at_most_abs (negsuc a) n h = omega (arith, ints)

-- |a| <= m and |b| * k <= v bound a * b * k
product_part : (m v k : ℕ) (a b : ℤ) → unsigned_abs a ≤ m → unsigned_abs b * k ≤ v → ((a *ℤ b) *ℤ pos k) ≤ℤ pos (m * v)
product_part m v k a b h p =
    let size : unsigned_abs a * (unsigned_abs b * k) ≤ m * v = mul-le-mul h p in
    at_most_abs ((a *ℤ b) *ℤ pos k) (m * v) (omega (arith, size, unsigned_abs-mul (a *ℤ b) (pos k), ap (λ t. t * k) (unsigned_abs-mul a b)))

-- two products of numbers from two ranges, in parts
gap : (m n v w k : ℕ) (p q p' q' : ℤ) → unsigned_abs p ≤ m → unsigned_abs q' ≤ n → unsigned_abs (q -ℤ q') * k ≤ v → unsigned_abs (p -ℤ p') * k ≤ w → (((p *ℤ q) -ℤ (p' *ℤ q')) *ℤ pos k) ≤ℤ pos (m * v + n * w)
gap m n v w k p q p' q' h h' g g' =
    let one : ((p *ℤ (q -ℤ q')) *ℤ pos k) ≤ℤ pos (m * v) = product_part m v k p (q -ℤ q') h g in
    let two : ((q' *ℤ (p -ℤ p')) *ℤ pos k) ≤ℤ pos (n * w) = product_part n w k q' (p -ℤ p') h' g' in
    let split : ((p *ℤ q) -ℤ (p' *ℤ q')) *ℤ pos k ≡ (p *ℤ (q -ℤ q')) *ℤ pos k +ℤ (q' *ℤ (p -ℤ p')) *ℤ pos k =
    rw (as_diff p, as_diff q, as_diff p', as_diff q') (simp diffs (same_diff _ _ _ _ (omega arith))) in
    recast (both_le one two) split refl
  where
    both_le : {a b : ℤ} {x y : ℕ} → a ≤ℤ pos x → b ≤ℤ pos y → (a +ℤ b) ≤ℤ pos (x + y)
    both_le h k = omega (arith, ints)

max_pick : (P : ℤ → Type 0) (x y : ℤ) → P x → P y → P (int_max x y)
max_pick P x y p q = elim (int_lt y x) as (λ t. P (cond t x y)) [ true ↦ p | false ↦ q ]

min_pick : (P : ℤ → Type 0) (x y : ℤ) → P x → P y → P (int_min x y)
min_pick P x y p q = elim (int_lt y x) as (λ t. P (cond t y x)) [ true ↦ q | false ↦ p ]

-- what holds of each of four numbers holds of the greatest, and of the least
pub greatest_pick : (P : ℤ → Type 0) (a b c e : ℤ) → P a → P b → P c → P e → P (int_max (int_max a b) (int_max c e))
greatest_pick P a b c e p q r s = max_pick P (int_max a b) (int_max c e) (max_pick P a b p q) (max_pick P c e r s)

pub least_pick : (P : ℤ → Type 0) (a b c e : ℤ) → P a → P b → P c → P e → P (int_min (int_min a b) (int_min c e))
least_pick P a b c e p q r s = min_pick P (int_min a b) (int_min c e) (min_pick P a b p q) (min_pick P c e r s)

abs_part : (z : ℤ) (k x : ℕ) → pos 0 ≤ℤ z → (z *ℤ pos k) ≤ℤ pos x → unsigned_abs z * k ≤ x
abs_part (pos n) k x h p = omega (arith, ints)
abs_part (negsuc n) k x h p = absurd (omega (arith, ints))

record Apart (a b : ℤ) (k x : ℕ) : Type 0 where
  aa : unsigned_abs (a -ℤ a) * k ≤ x
  ab : unsigned_abs (a -ℤ b) * k ≤ x
  ba : unsigned_abs (b -ℤ a) * k ≤ x
  bb : unsigned_abs (b -ℤ b) * k ≤ x

apart : (a b : ℤ) (k x : ℕ) → a ≤ℤ b → ((b -ℤ a) *ℤ pos k) ≤ℤ pos x → Apart a b k x
apart a b k x p q =
    let none : unsigned_abs (a -ℤ a) ≡ 0 = omega (arith, ints) in
    let none' : unsigned_abs (b -ℤ b) ≡ 0 = omega (arith, ints) in
    let back : unsigned_abs (a -ℤ b) ≡ unsigned_abs (b -ℤ a) = omega (arith, ints) in
    let far : unsigned_abs (b -ℤ a) * k ≤ x = abs_part (b -ℤ a) k x (omega (arith, ints)) q in
    record { aa = rw none (omega arith); ab = rw back far; ba = far; bb = rw none' (omega arith) }

module _ (l h l' h' : ℤ) (m n v w k : ℕ) where
  row : (p q : ℤ) → unsigned_abs p ≤ m → unsigned_abs l' ≤ n → unsigned_abs h' ≤ n
      → unsigned_abs (q -ℤ l') * k ≤ v → unsigned_abs (q -ℤ h') * k ≤ v → unsigned_abs (p -ℤ l) * k ≤ w → unsigned_abs (p -ℤ h) * k ≤ w
      → (((p *ℤ q) -ℤ least_product l h l' h') *ℤ pos k) ≤ℤ pos (m * v + n * w)
  row p q hp ll' hh' d e f g =
      least_pick (λ y. (((p *ℤ q) -ℤ y) *ℤ pos k) ≤ℤ pos (m * v + n * w)) (l *ℤ l') (h *ℤ l') (l *ℤ h') (h *ℤ h')
      (gap m n v w k p q l l' hp ll' d f) (gap m n v w k p q h l' hp ll' d g) (gap m n v w k p q l h' hp hh' e f) (gap m n v w k p q h h' hp hh' e g)

  gap4 : unsigned_abs l ≤ m → unsigned_abs h ≤ m → unsigned_abs l' ≤ n → unsigned_abs h' ≤ n → Apart l h k w → Apart l' h' k v
      → ((greatest_product l h l' h' -ℤ least_product l h l' h') *ℤ pos k) ≤ℤ pos (m * v + n * w)
  gap4 ll hh ll' hh' x y =
      greatest_pick (λ z. ((z -ℤ least_product l h l' h') *ℤ pos k) ≤ℤ pos (m * v + n * w)) (l *ℤ l') (h *ℤ l') (l *ℤ h') (h *ℤ h')
      (row l l' ll ll' hh' y.aa y.ab x.aa x.ab) (row h l' hh ll' hh' y.aa y.ab x.ba x.bb) (row l h' ll ll' hh' y.ba y.bb x.aa x.ab) (row h h' hh ll' hh' y.ba y.bb x.ba x.bb)

-- quotients of a line by D
quotient : (X D A B d c : ℕ) → 0 < D → X ≤ A + B * d + c * D → X ≤ ((A / D + 1 + c) + (B / D + 1) * d) * D
quotient X D A B d c above h =
    let a : A < A / D * D + D = lt-div-mul-add above in
    let b : B < B / D * D + D = lt-div-mul-add above in
    let b' : B ≤ B / D * D + D = omega arith in
    omega (arith, mul-le-mul_right d b')

floor_near : (z : ℤ) (D : ℕ) → 0 < D → z ≤ℤ ((floor_div z D *ℤ pos D) +ℤ pos D)
floor_near (pos a) D h = omega (arith, ints, lt-div-mul-add {a = a} h)
floor_near (negsuc a) D h = omega (arith, ints, div-mul-le_self a D)

pos_le : {a b : ℕ} → a ≤ b → pos a ≤ℤ pos b
pos_le h = omega (arith, ints)

regroup : (c f : ℤ) (k D : ℕ) → ((c -ℤ f) *ℤ pos k) *ℤ pos D ≡ ((c *ℤ pos D) -ℤ (f *ℤ pos D)) *ℤ pos k
regroup c f k D = rw (as_diff c, as_diff f) (simp diffs (same_diff _ _ _ _ (omega arith)))

-- rounding outwards widens by at most two units
rounded_width : (g t : ℤ) (D k A B d : ℕ) → 0 < D → ((g -ℤ t) *ℤ pos k) ≤ℤ pos (A + B * d) → ((ceil_div g D -ℤ floor_div t D) *ℤ pos k) ≤ℤ pos ((A / D + 1 + 2 * k) + (B / D + 1) * d)
rounded_width g t D k A B d above h =
    let low : t ≤ℤ ((floor_div t D *ℤ pos D) +ℤ pos D) = floor_near t D above in
    let high : neg_ℤ g ≤ℤ ((floor_div (neg_ℤ g) D *ℤ pos D) +ℤ pos D) = floor_near (neg_ℤ g) D above in
    let high' : (ceil_div g D *ℤ pos D) ≤ℤ (g +ℤ pos D) =
    let h' : neg_ℤ (floor_div (neg_ℤ g) D *ℤ pos D) ≤ℤ (g +ℤ pos D) = omega (arith, ints, high) in
    recast h' (neg-*ℤ (floor_div (neg_ℤ g) D) (pos D)) refl in
    let span : ((ceil_div g D *ℤ pos D) -ℤ (floor_div t D *ℤ pos D)) ≤ℤ ((g -ℤ t) +ℤ pos (2 * D)) = omega (arith, ints, low, high') in
    let scaled : (((ceil_div g D *ℤ pos D) -ℤ (floor_div t D *ℤ pos D)) *ℤ pos k) ≤ℤ (((g -ℤ t) +ℤ pos (2 * D)) *ℤ pos k) = mul-le_pos k span in
    let right : ((g -ℤ t) +ℤ pos (2 * D)) *ℤ pos k ≡ (g -ℤ t) *ℤ pos k +ℤ pos (2 * k * D) =
    rw (as_diff g, as_diff t) (simp diffs (same_diff _ _ _ _ (omega arith))) in
    let left : ((ceil_div g D -ℤ floor_div t D) *ℤ pos k) *ℤ pos D ≡ ((ceil_div g D *ℤ pos D) -ℤ (floor_div t D *ℤ pos D)) *ℤ pos k = regroup (ceil_div g D) (floor_div t D) k D in
    let line : ((g -ℤ t) *ℤ pos k +ℤ pos (2 * k * D)) ≤ℤ pos (A + B * d + 2 * k * D) = omega (arith, ints, h) in
    let whole : A + B * d + 2 * k * D ≤ ((A / D + 1 + 2 * k) + (B / D + 1) * d) * D = quotient _ D A B d (2 * k) above (le_refl _) in
    le_of_mul-le_pos D above (≤ℤ_trans (recast scaled left refl) (≤ℤ_trans (recast line right refl) (pos_le whole)))

pub Sized-product : (s m a b n a' b' d : ℕ) (l h l' h' : ℤ) → l ≤ℤ h → l' ≤ℤ h' → Sized m a b d l h → Sized n a' b' d l' h'
    → Sized (product_most (2 ^ s) m n) (product_line (2 ^ s) m a n a' + 2 * parts) (product_line (2 ^ s) m b n b') d (floor_div (least_product l h l' h') (2 ^ s)) (ceil_div (greatest_product l h l' h') (2 ^ s))
Sized-product s m a b n a' b' d l h l' h' order order' p q =
    let x = apart l h parts (a + b * d) order p.width in
    let y = apart l' h' parts (a' + b' * d) order' q.width in
    let ll : unsigned_abs l ≤ m = abs_of m l p.low (≤ℤ_trans order p.high) in
    let hh : unsigned_abs h ≤ m = abs_of m h (≤ℤ_trans p.low order) p.high in
    let ll' : unsigned_abs l' ≤ n = abs_of n l' q.low (≤ℤ_trans order' q.high) in
    let hh' : unsigned_abs h' ≤ n = abs_of n h' (≤ℤ_trans q.low order') q.high in
    let g : ((greatest_product l h l' h' -ℤ least_product l h l' h') *ℤ pos parts) ≤ℤ pos (m * (a' + b' * d) + n * (a + b * d)) = gap4 l h l' h' m n (a' + b' * d) (a + b * d) parts ll hh ll' hh' x y in
    let g' : ((greatest_product l h l' h' -ℤ least_product l h l' h') *ℤ pos parts) ≤ℤ pos ((m * a' + n * a) + (m * b' + n * b) * d) = ≤ℤ_trans g (pos_le (omega arith)) in
    let near : m * n ≤ product_most (2 ^ s) m n * 2 ^ s = omega (arith, lt-div-mul-add {a = m * n} (pow_pos s)) in
    let within = products_within m n (product_most (2 ^ s) m n * 2 ^ s) l h l' h' near
    (record { low = p.low; high = ≤ℤ_trans order p.high }) (record { low = ≤ℤ_trans p.low order; high = p.high })
    (record { low = q.low; high = ≤ℤ_trans order' q.high }) (record { low = ≤ℤ_trans q.low order'; high = q.high }) in
    let w = rounded_width (greatest_product l h l' h') (least_product l h l' h') (2 ^ s) parts (m * a' + n * a) (m * b' + n * b) d (pow_pos s) g' in
    record {
      low = ends_low (product_most (2 ^ s) m n) s l h l' h' within;
      high = ends_high (product_most (2 ^ s) m n) s l h l' h' within;
      width = ≤ℤ_trans w (pos_le (omega arith));
    }

le-add : (a b : ℕ) → a ≤ a + b
le-add a b = omega arith

-- (l + e)^n grows by at most n * m^(n - 1) * e
power_step : (L P M S l e m : ℕ) → P ≤ L + S * e → L ≤ M → l + e ≤ m → P * (l + e) ≤ L * l + (S * m + M) * e
power_step L P M S l e m h below small =
    omega (arith, mul-le-mul_right (l + e) h, mul-le-mul_right e below, mul-le-mul_left (S * e) small)

power_gap : (n l e m : ℕ) → l + e ≤ m → (l + e) ^ n ≤ l ^ n + slope n m * e
unfolding slope
power_gap zero l e m h = omega (arith, pow-zero (l + e), pow-zero l)
power_gap (suc n) l e m h =
    rw (pow-suc (l + e) n, pow-suc l n) (power_step (l ^ n) ((l + e) ^ n) (m ^ n) (slope n m) l e m (power_gap n l e m h) (pow-le-pow_left (le_trans (le-add l e) h) n) h)

parts_of : (l h w : ℕ) → pos l ≤ℤ pos h → ((pos h -ℤ pos l) *ℤ pos parts) ≤ℤ pos w → (h - l) * parts ≤ w
parts_of l h w o p = let e : pos h -ℤ pos l ≡ pos (h - l) = omega (arith, ints, o) in omega (arith, ints, rw e at p)

of_parts : (l h w : ℕ) → pos l ≤ℤ pos h → (h - l) * parts ≤ w → ((pos h -ℤ pos l) *ℤ pos parts) ≤ℤ pos w
of_parts l h w o p = let e : pos h -ℤ pos l ≡ pos (h - l) = omega (arith, ints, o) in rw e (omega (arith, ints))

-- the width of a power, in parts
power_width : (D Dn n l' y h' Ln Hn S k w X : ℕ) → Ln * D ≤ (l' + n) * Dn → h' * Dn ≤ Hn * D + n * Dn → Hn ≤ Ln + S * X → X * k ≤ w → l' + y ≡ h' → (y * k) * Dn ≤ S * w * D + 2 * n * k * Dn
power_width D Dn n l' y h' Ln Hn S k w X low high grows wide e =
    let high' : (l' + y) * Dn ≤ Hn * D + n * Dn = rw e high in
    omega (arith, mul-le-mul_right k low, mul-le-mul_right k high', mul-le-mul_right (D * k) grows, mul-le-mul_left (S * D) wide)

power_size : (s n m a b d l h l' h' : ℕ) → l ≤ h → l' ≤ h' → h ≤ m → (h - l) * parts ≤ a + b * d
    → l ^ n * 2 ^ s ≤ (l' + n) * (2 ^ s) ^ n → h' * (2 ^ s) ^ n ≤ h ^ n * 2 ^ s + n * (2 ^ s) ^ n
    → (h' ≤ power_most (2 ^ s) n m) × ((h' - l') * parts ≤ (power_line (2 ^ s) n m a + 2 * n * parts) + power_line (2 ^ s) n m b * d)
power_size s n m a b d l h l' h' order order' small wide low high =
    let D = 2 ^ s in
    let Dn = (2 ^ s) ^ n in
    let above : 0 < (2 ^ s) ^ n = one-le-pow n (2 ^ s) (pow_pos s) in
    let X = h - l in
    let whole : l + (h - l) ≡ h = omega arith in
    let grows : h ^ n ≤ l ^ n + slope n m * (h - l) = rw whole at (power_gap n l (h - l) m (omega arith)) in
    let width : ((h' - l') * parts) * (2 ^ s) ^ n ≤ slope n m * (a + b * d) * 2 ^ s + 2 * n * parts * (2 ^ s) ^ n =
    power_width (2 ^ s) ((2 ^ s) ^ n) n l' (h' - l') h' (l ^ n) (h ^ n) (slope n m) parts (a + b * d) (h - l) low high grows wide (omega arith) in
    let line : slope n m * (a + b * d) * 2 ^ s + 2 * n * parts * (2 ^ s) ^ n ≤ ((slope n m * a * 2 ^ s / (2 ^ s) ^ n + 1 + 2 * n * parts) + (slope n m * b * 2 ^ s / (2 ^ s) ^ n + 1) * d) * (2 ^ s) ^ n =
    quotient _ ((2 ^ s) ^ n) (slope n m * a * 2 ^ s) (slope n m * b * 2 ^ s) d (2 * n * parts) above (omega arith) in
    let most : h' * (2 ^ s) ^ n ≤ power_most (2 ^ s) n m * (2 ^ s) ^ n =
    omega (arith, mul-le-mul_right (2 ^ s) (pow-le-pow_left small n), lt-div-mul-add {a = m ^ n * 2 ^ s} above) in (
      le_of_mul-le-mul_right {m = h'} {n = power_most (2 ^ s) n m} {k = (2 ^ s) ^ n} most above,
      le_of_mul-le-mul_right {m = (h' - l') * parts} {k = (2 ^ s) ^ n} (le_trans width line) above,
    )

pub Sized-power : (s n m a b d : ℕ) (lo hi lo' hi' : ℤ) → pos 0 ≤ℤ lo → lo ≤ℤ hi → lo' ≤ℤ hi' → IsPower s n lo hi lo' hi' → Sized m a b d lo hi
    → Sized (power_most (2 ^ s) n m) (power_line (2 ^ s) n m a + 2 * n * parts) (power_line (2 ^ s) n m b) d lo' hi'
Sized-power s n m a b d (pos l) (pos h) (pos l') (pos h') p o o' e z =
    let size = power_size s n m a b d l h l' h' (omega (arith, ints)) (omega (arith, ints)) (omega (arith, ints, z.high)) (parts_of l h (a + b * d) o z.width) e.low_above e.high_below in
    record { low = omega (arith, ints); high = omega (arith, ints, size.0); width = of_parts l' h' _ o' size.1 }
Sized-power s n m a b d (negsuc l) hi lo' hi' p o o' e z = absurd (omega (arith, ints, p))
Sized-power s n m a b d (pos l) (negsuc h) lo' hi' p o o' e z = absurd (omega (arith, ints, o))
Sized-power s n m a b d (pos l) (pos h) (negsuc l') hi' p o o' e z = absurd (omega (arith, ints, e.low))
Sized-power s n m a b d (pos l) (pos h) (pos l') (negsuc h') p o o' e z = absurd (omega (arith, ints, o'))

pub Sized-down : (n m a b d : ℕ) (lo hi : ℤ) → 0 < n → Sized m a b d lo hi → Sized (m / n + 1) (a / n + 1 + 2 * parts) (b / n + 1) d (floor_div lo n) (ceil_div hi n)
Sized-down n m a b d lo hi above z =
    let near : m ≤ (m / n + 1) * n = omega (arith, lt-div-mul-add {a = m} above) in
    record {
      low = floor_at_least (m / n + 1) n lo above (≤ℤ_trans (flip_le (pos_le near)) z.low);
      high = ceil_at_most (m / n + 1) n hi above (≤ℤ_trans z.high (pos_le near));
      width = rounded_width hi lo n parts a b d above z.width;
    }

scaled_le : {a : ℤ} {b : ℕ} (n : ℕ) → a ≤ℤ pos b → (a *ℤ pos n) ≤ℤ pos (b * n)
scaled_le n h = recast (mul-le_pos n h) refl refl

spread : (a b : ℤ) (k n : ℕ) → (((a *ℤ pos n) -ℤ (b *ℤ pos n)) *ℤ pos k) ≡ ((a -ℤ b) *ℤ pos k) *ℤ pos n
spread a b k n = rw (as_diff a, as_diff b) (simp diffs (same_diff _ _ _ _ (omega arith)))

pub Sized-up : (n m a b d : ℕ) (lo hi : ℤ) → Sized m a b d lo hi → Sized (m * n) (a * n) (b * n) d (lo *ℤ pos n) (hi *ℤ pos n)
Sized-up n m a b d lo hi z = record {
  low = recast (mul-le_pos n z.low) (sym (neg-*ℤ (pos m) (pos n))) refl;
  high = scaled_le n z.high;
  width = ≤ℤ_trans (recast (scaled_le n z.width) (spread hi lo parts n) refl) (pos_le (omega arith));
}

pub Sized-add : (m a b m' a' b' d : ℕ) (lo hi lo' hi' : ℤ) → Sized m a b d lo hi → Sized m' a' b' d lo' hi' → Sized (m + m') (a + a') (b + b') d (lo +ℤ lo') (hi +ℤ hi')
Sized-add m a b m' a' b' d lo hi lo' hi' y z = record {
  low = omega (arith, ints, y.low, z.low);
  high = omega (arith, ints, y.high, z.high);
  width = ≤ℤ_trans (recast (sums y.width z.width) (apart_sum lo hi lo' hi' parts) refl) (pos_le (omega arith));
}
  where
    sums : {p q : ℤ} {v w : ℕ} → p ≤ℤ pos v → q ≤ℤ pos w → (p +ℤ q) ≤ℤ pos (v + w)
    sums h k = omega (arith, ints)

    apart_sum : (l h l' h' : ℤ) (k : ℕ) → (((h +ℤ h') -ℤ (l +ℤ l')) *ℤ pos k) ≡ (h -ℤ l) *ℤ pos k +ℤ (h' -ℤ l') *ℤ pos k
    apart_sum l h l' h' k = rw (as_diff l, as_diff h, as_diff l', as_diff h') (simp diffs (same_diff _ _ _ _ (omega arith)))

-- a number known by the width of its enclosure and by one number within
pub Sized-near : (m w d : ℕ) (lo hi : ℤ) → lo ≤ℤ pos m → neg_ℤ (pos m) ≤ℤ hi → hi ≤ℤ (lo +ℤ pos w) → Sized (m + w) (w * parts) 0 d lo hi
Sized-near m w d lo hi a b c =
    let gap : (hi -ℤ lo) ≤ℤ pos w = omega (arith, ints) in
    record {
      low = omega (arith, ints);
      high = omega (arith, ints);
      width = ≤ℤ_trans (scaled_le parts gap) (pos_le (omega arith));
    }

-- one step of Horner's scheme
pub Sized-step : (s d : ℕ) (c z h : Size) (cl ch zl zh l k : ℤ) → zl ≤ℤ zh → l ≤ℤ k → SizedBy c d cl ch → SizedBy z d zl zh → SizedBy h d l k
    → SizedBy (sum_size c (product_size (2 ^ s) z h)) d (cl +ℤ floor_div (least_product zl zh l k) (2 ^ s)) (ch +ℤ ceil_div (greatest_product zl zh l k) (2 ^ s))
Sized-step s d c z h cl ch zl zh l k order order' x y w =
    Sized-add _ _ _ _ _ _ d cl ch _ _ x (Sized-product s _ _ _ _ _ _ d zl zh l k order order' y w)

pub step_ordered : (s : ℕ) (cl ch zl zh l k : ℤ) → cl ≤ℤ ch → (cl +ℤ floor_div (least_product zl zh l k) (2 ^ s)) ≤ℤ (ch +ℤ ceil_div (greatest_product zl zh l k) (2 ^ s))
step_ordered s cl ch zl zh l k order =
    let product : floor_div (least_product zl zh l k) (2 ^ s) ≤ℤ ceil_div (greatest_product zl zh l k) (2 ^ s) =
    floor-le_ceil (least_product zl zh l k) (greatest_product zl zh l k) (2 ^ s) (pow_pos s) (least_of-le_greatest (zl *ℤ l) (zh *ℤ l) (zl *ℤ k) (zh *ℤ k)) in
    both order product
  where
    both : {a b e f : ℤ} → a ≤ℤ b → e ≤ℤ f → (a +ℤ e) ≤ℤ (b +ℤ f)
    both h k = omega (arith, ints, h, k)

pub Sized-wider : (m a b m' a' b' d : ℕ) (lo hi : ℤ) → m ≤ m' → a ≤ a' → b ≤ b' → Sized m a b d lo hi → Sized m' a' b' d lo hi
Sized-wider m a b m' a' b' d lo hi h i j z = record {
  low = ≤ℤ_trans (flip_le (pos_le h)) z.low;
  high = ≤ℤ_trans z.high (pos_le h);
  width = ≤ℤ_trans z.width (pos_le (omega (arith, i, mul-le-mul_right d j)));
}
