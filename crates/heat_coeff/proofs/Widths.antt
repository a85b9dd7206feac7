-- The distance of the ends of a quotient.
use Rattle.std.proofs.Common.{◌≡◌, ℕ, ◌+◌, ◌-◌, ◌*◌, ◌^◌, ◌<◌, ◌≤◌, subst, arith, unsigned_abs, lit<, ℤ, pos, negsuc, neg_ℤ, ◌+ℤ◌, ◌*ℤ◌, ◌≤ℤ◌}
use Rattle.std.proofs.lemmas.Int.{ints}
use Rattle.std.proofs.Math.Nat.{mul-pos, mul-le-mul_right, mul-le-mul_left}
use lib.IntN.{◌-ℤ◌}
use Rattle.number_model.specs.Rounding.{IsWithin, floor_div}
use Rattle.number_model.proofs.Ints.{as_diff, same_diff, ring, ≤ℤ_trans, mul-le_pos, le_of_mul-le_pos, recast, neg-*ℤ, le_by}
use Rattle.heat_coeff.specs.Quotients.{least_floor, greatest_ceil}
use Rattle.heat_coeff.proofs.Quotients.{least_floor-negative, least_floor-nonnegative, least_floor-neg, least_floor-least, greatest_ceil-most, ends_ordered}

-- ---- a quotient rounded down or up is off by less than 1
floor_close : (z : ℤ) (n : ℕ) → 0 < n → z ≤ℤ (floor_div z n *ℤ pos n +ℤ pos n)
floor_close (pos a) n h = omega (arith, ints)
floor_close (negsuc a) n h = omega (arith, ints)

along : (n f lo : ℤ) (p : ℕ) → f ≡ lo → n ≤ℤ (f *ℤ pos p +ℤ pos p) → n ≤ℤ (lo *ℤ pos p +ℤ pos p)
along n f lo p e h = subst (λ t. n ≤ℤ (t *ℤ pos p +ℤ pos p)) e h

-- the divisor that the lesser quotient takes
close_nonnegative : (n : ℤ) (p q : ℕ) → 0 < p → p ≤ q → pos 0 ≤ℤ n → n ≤ℤ (least_floor n p q *ℤ pos q +ℤ pos q)
close_nonnegative n p q h k s = along n _ _ q (least_floor-nonnegative n p q h k s) (floor_close n q (omega arith))

close_nonpositive : (n : ℤ) (p q : ℕ) → 0 < p → p ≤ q → n ≤ℤ pos 0 → n ≤ℤ (least_floor n p q *ℤ pos p +ℤ pos p)
close_nonpositive (pos a) p q h k s =
    let low : neg_ℤ (pos 0) ≤ℤ least_floor (pos a) p q = least_floor-least 0 (pos a) p q h k (omega (arith, ints)) in
    let t : (pos 0 *ℤ pos p) ≤ℤ (least_floor (pos a) p q *ℤ pos p) = mul-le_pos p low in
    ≤ℤ_trans s (omega (arith, ints, t))
close_nonpositive (negsuc a) p q h k s = along (negsuc a) _ _ p (least_floor-negative (negsuc a) p q h k (omega (arith, ints))) (floor_close (negsuc a) p h)

turned : (l lo hi : ℤ) (p : ℕ) → neg_ℤ lo ≡ hi → (pos 0 -ℤ l) ≤ℤ (lo *ℤ pos p +ℤ pos p) → (hi *ℤ pos p) ≤ℤ (l +ℤ pos p)
turned l lo hi p e h =
    let f : neg_ℤ lo *ℤ pos p ≡ neg_ℤ (lo *ℤ pos p) = neg-*ℤ lo (pos p) in
    let g : (neg_ℤ lo *ℤ pos p) ≤ℤ (l +ℤ pos p) = omega (arith, ints, f, h) in
    subst (λ t. (t *ℤ pos p) ≤ℤ (l +ℤ pos p)) e g

close_up_nonnegative : (l : ℤ) (p q : ℕ) → 0 < p → p ≤ q → pos 0 ≤ℤ l → (greatest_ceil l p q *ℤ pos p) ≤ℤ (l +ℤ pos p)
close_up_nonnegative l p q h k s = turned l _ _ p (least_floor-neg l p q) (close_nonpositive (pos 0 -ℤ l) p q h k (omega (arith, ints)))

close_up_nonpositive : (l : ℤ) (p q : ℕ) → 0 < p → p ≤ q → l ≤ℤ pos 0 → (greatest_ceil l p q *ℤ pos q) ≤ℤ (l +ℤ pos q)
close_up_nonpositive l p q h k s = turned l _ _ q (least_floor-neg l p q) (close_nonnegative (pos 0 -ℤ l) p q h k (omega (arith, ints)))

-- ---- The distance of the ends lo and hi for a numerator from n to l and a divisor from p to p + e, where no numerator
-- is larger than size: less 2, and times both divisors, it is at most (l - n) (p + e) + size e.
apart_above : (size : ℕ) (n l lo hi : ℤ) (p e : ℕ) → n ≤ℤ pos size → n ≤ℤ (lo *ℤ pos (p + e) +ℤ pos (p + e)) → (hi *ℤ pos p) ≤ℤ (l +ℤ pos p)
    → ((hi -ℤ lo -ℤ pos 2) *ℤ pos (p * (p + e))) ≤ℤ ((l -ℤ n) *ℤ pos (p + e) +ℤ pos (size * e))
apart_above size n l lo hi p e most low high =
    let k : (n *ℤ pos p) ≤ℤ ((lo *ℤ pos (p + e) +ℤ pos (p + e)) *ℤ pos p) = mul-le_pos p low in
    let h : ((hi *ℤ pos p) *ℤ pos (p + e)) ≤ℤ ((l +ℤ pos p) *ℤ pos (p + e)) = mul-le_pos (p + e) high in
    let s : (n *ℤ pos e) ≤ℤ (pos size *ℤ pos e) = mul-le_pos e most in
    let both : ((n *ℤ pos p +ℤ (hi *ℤ pos p) *ℤ pos (p + e)) +ℤ n *ℤ pos e) ≤ℤ (((lo *ℤ pos (p + e) +ℤ pos (p + e)) *ℤ pos p +ℤ (l +ℤ pos p) *ℤ pos (p + e)) +ℤ pos (size * e)) = omega (arith, ints, k, h, s) in
    le_by both (rw (as_diff n, as_diff l, as_diff lo, as_diff hi) (simp ring (same_diff _ _ _ _ (omega arith))))

apart_across : (size : ℕ) (n l lo hi : ℤ) (p q e : ℕ) → n ≤ℤ (lo *ℤ pos p +ℤ pos p) → (hi *ℤ pos p) ≤ℤ (l +ℤ pos p)
    → ((hi -ℤ lo -ℤ pos 2) *ℤ pos (p * q)) ≤ℤ ((l -ℤ n) *ℤ pos q +ℤ pos (size * e))
apart_across size n l lo hi p q e low high =
    let k : (n *ℤ pos q) ≤ℤ ((lo *ℤ pos p +ℤ pos p) *ℤ pos q) = mul-le_pos q low in
    let h : ((hi *ℤ pos p) *ℤ pos q) ≤ℤ ((l +ℤ pos p) *ℤ pos q) = mul-le_pos q high in
    let both : (n *ℤ pos q +ℤ (hi *ℤ pos p) *ℤ pos q) ≤ℤ (((lo *ℤ pos p +ℤ pos p) *ℤ pos q +ℤ (l +ℤ pos p) *ℤ pos q) +ℤ pos (size * e)) = omega (arith, ints, k, h) in
    le_by both (rw (as_diff n, as_diff l, as_diff lo, as_diff hi) (simp ring (same_diff _ _ _ _ (omega arith))))

apart_below : (size : ℕ) (n l lo hi : ℤ) (p e : ℕ) → neg_ℤ l ≤ℤ pos size → n ≤ℤ (lo *ℤ pos p +ℤ pos p) → (hi *ℤ pos (p + e)) ≤ℤ (l +ℤ pos (p + e))
    → ((hi -ℤ lo -ℤ pos 2) *ℤ pos (p * (p + e))) ≤ℤ ((l -ℤ n) *ℤ pos (p + e) +ℤ pos (size * e))
apart_below size n l lo hi p e most low high =
    let k : (n *ℤ pos (p + e)) ≤ℤ ((lo *ℤ pos p +ℤ pos p) *ℤ pos (p + e)) = mul-le_pos (p + e) low in
    let h : ((hi *ℤ pos (p + e)) *ℤ pos p) ≤ℤ ((l +ℤ pos (p + e)) *ℤ pos p) = mul-le_pos p high in
    let s : (neg_ℤ l *ℤ pos e) ≤ℤ (pos size *ℤ pos e) = mul-le_pos e most in
    let both : ((n *ℤ pos (p + e) +ℤ (hi *ℤ pos (p + e)) *ℤ pos p) +ℤ neg_ℤ l *ℤ pos e) ≤ℤ (((lo *ℤ pos p +ℤ pos p) *ℤ pos (p + e) +ℤ (l +ℤ pos (p + e)) *ℤ pos p) +ℤ pos (size * e)) = omega (arith, ints, k, h, s) in
    le_by both (rw (as_diff n, as_diff l, as_diff lo, as_diff hi) (simp ring (same_diff _ _ _ _ (omega arith))))

-- by the signs of the numerators
apart : (size : ℕ) (n l : ℤ) (p e : ℕ) → 0 < p → n ≤ℤ l → neg_ℤ (pos size) ≤ℤ n → l ≤ℤ pos size
    → ((greatest_ceil l p (p + e) -ℤ least_floor n p (p + e) -ℤ pos 2) *ℤ pos (p * (p + e))) ≤ℤ ((l -ℤ n) *ℤ pos (p + e) +ℤ pos (size * e))
apart size (pos a) (pos b) p e h order low high =
    apart_above size (pos a) (pos b) _ _ p e (≤ℤ_trans order high) (close_nonnegative (pos a) p (p + e) h (omega arith) (omega (arith, ints))) (close_up_nonnegative (pos b) p (p + e) h (omega arith) (omega (arith, ints)))
apart size (pos a) (negsuc b) p e h order low high = absurd (omega (arith, ints, order))
apart size (negsuc a) (pos b) p e h order low high =
    apart_across size (negsuc a) (pos b) _ _ p (p + e) e (close_nonpositive (negsuc a) p (p + e) h (omega arith) (omega (arith, ints))) (close_up_nonnegative (pos b) p (p + e) h (omega arith) (omega (arith, ints)))
apart size (negsuc a) (negsuc b) p e h order low high =
    apart_below size (negsuc a) (negsuc b) _ _ p e (omega (arith, ints, order, low)) (close_nonpositive (negsuc a) p (p + e) h (omega arith) (omega (arith, ints))) (close_up_nonpositive (negsuc b) p (p + e) h (omega arith) (omega (arith, ints)))

-- the factor m of both divisors
without_factor : (size m a e : ℕ) (x d : ℤ) → 0 < m → (x *ℤ pos ((a * m) * (a * m + e * m))) ≤ℤ (d *ℤ pos (a * m + e * m) +ℤ pos (size * (e * m)))
    → ((x *ℤ pos m) *ℤ pos (a * (a + e))) ≤ℤ (d *ℤ pos (a + e) +ℤ pos (size * e))
without_factor size m a e x d above h =
    le_of_mul-le_pos m above
    (recast h
    (rw (as_diff x) (simp ring (same_diff _ _ _ _ (omega arith))))
    (rw (as_diff d) (simp ring (same_diff _ _ _ _ (omega arith)))))

-- where size e is at most c a (a + e), a factor a + e goes
without_divisor : (size c a e : ℕ) (y d : ℤ) → 0 < a → size * e ≤ c * (a * (a + e)) → (y *ℤ pos (a * (a + e))) ≤ℤ (d *ℤ pos (a + e) +ℤ pos (size * e)) → ((y -ℤ pos c) *ℤ pos a) ≤ℤ d
without_divisor size c a e y d above small h =
    let t : (y *ℤ pos (a * (a + e))) ≤ℤ (d *ℤ pos (a + e) +ℤ pos (c * (a * (a + e)))) = omega (arith, ints, h, small) in
    le_of_mul-le_pos (a + e) (omega arith)
    (le_by t (rw (as_diff y, as_diff d) (simp ring (same_diff _ _ _ _ (omega arith)))))

-- the ends for all numerators from dlo k to dhi k, and the divisors a m and b m
apart_ends : (k m a b e : ℕ) (dlo dhi : ℤ) → b ≡ a + e → 0 < m → 0 < a → dlo ≤ℤ dhi → neg_ℤ (pos (1200 * 2 ^ 48)) ≤ℤ dlo → dhi ≤ℤ pos (1200 * 2 ^ 48)
    → (((greatest_ceil (dhi *ℤ pos k) (a * m) (b * m) -ℤ least_floor (dlo *ℤ pos k) (a * m) (b * m) -ℤ pos 2) *ℤ pos m) *ℤ pos (a * (a + e)))
    ≤ℤ ((dhi *ℤ pos k -ℤ dlo *ℤ pos k) *ℤ pos (a + e) +ℤ pos ((1200 * 2 ^ 48 * k) * e))
apart_ends k m a b e dlo dhi wider m_above a_above order low high =
    let low' : (neg_ℤ (pos (1200 * 2 ^ 48)) *ℤ pos k) ≤ℤ (dlo *ℤ pos k) = mul-le_pos k low in
    let high' : (dhi *ℤ pos k) ≤ℤ (pos (1200 * 2 ^ 48) *ℤ pos k) = mul-le_pos k high in
    let both = apart (1200 * 2 ^ 48 * k) (dlo *ℤ pos k) (dhi *ℤ pos k) (a * m) (e * m) (mul-pos a_above m_above) (mul-le_pos k order) (omega (arith, ints, low')) (omega (arith, ints, high')) in
    let q_is : a * m + e * m ≡ b * m = rw wider (omega arith) in
    subst (λ q. (((greatest_ceil (dhi *ℤ pos k) (a * m) q -ℤ least_floor (dlo *ℤ pos k) (a * m) q -ℤ pos 2) *ℤ pos m) *ℤ pos (a * (a + e))) ≤ℤ ((dhi *ℤ pos k -ℤ dlo *ℤ pos k) *ℤ pos (a + e) +ℤ pos ((1200 * 2 ^ 48 * k) * e)))
    q_is
    (without_factor (1200 * 2 ^ 48 * k) m a e _ (dhi *ℤ pos k -ℤ dlo *ℤ pos k) m_above both)

-- ---- the energy of a litre
small_volumes : (size c a e : ℕ) → 9 * 2 ^ 56 ≤ a * 10000 → size * e ≤ c * (64851834634135 * 64851834634135) → size * e ≤ c * (a * (a + e))
small_volumes size c a e least h =
    let at : 64851834634135 ≤ a = omega arith in
    let one : 64851834634135 * 64851834634135 ≤ a * 64851834634135 = mul-le-mul_right 64851834634135 at in
    let two : a * 64851834634135 ≤ a * (a + e) = mul-le-mul_left a (omega arith) in
    let square : 64851834634135 * 64851834634135 ≤ a * (a + e) = omega (arith, one, two) in
    let more : c * (64851834634135 * 64851834634135) ≤ c * (a * (a + e)) = mul-le-mul_left c square in
    omega (arith, h, more)

litre_quotient : (z dlo dhi : ℤ) (a w : ℕ) → 9 * 2 ^ 56 ≤ a * 10000 → ((dhi -ℤ dlo) *ℤ pos (10 ^ 9)) ≤ℤ pos ((74 + 116 * w) * 2 ^ 48)
    → (z *ℤ pos a) ≤ℤ (dhi *ℤ pos 256000 -ℤ dlo *ℤ pos 256000) → (pos 900 *ℤ z) ≤ℤ pos (74 + 116 * w)
litre_quotient (pos n) dlo dhi a w least narrow h =
    let t : n * (9 * 2 ^ 56) ≤ n * (a * 10000) = mul-le-mul_left n least in
    omega (arith, ints, t, narrow, h)
litre_quotient (negsuc n) dlo dhi a w least narrow h = omega (arith, ints)

litre_apart : (a b e wf wr : ℕ) (dlo dhi : ℤ) → b ≡ a + e → 9 * 2 ^ 56 ≤ a * 10000 → e * 10 ^ 15 ≤ 9268 * 2 ^ 56 → dlo ≤ℤ dhi → neg_ℤ (pos (1200 * 2 ^ 48)) ≤ℤ dlo → dhi ≤ℤ pos (1200 * 2 ^ 48)
    → ((dhi -ℤ dlo) *ℤ pos (10 ^ 9)) ≤ℤ pos ((74 + 116 * (wf + wr)) * 2 ^ 48)
    → (pos 15 *ℤ (greatest_ceil (dhi *ℤ pos 256000) (a * 1) (b * 1) -ℤ least_floor (dlo *ℤ pos 256000) (a * 1) (b * 1))) ≤ℤ pos (241 + 2 * (wf + wr))
litre_apart a b e wf wr dlo dhi wider least close order low high narrow =
    let far = apart_ends 256000 1 a b e dlo dhi wider (lit< tt) (omega arith) order low high in
    let small : (1200 * 2 ^ 48 * 256000) * e ≤ 14 * (a * (a + e)) = small_volumes (1200 * 2 ^ 48 * 256000) 14 a e least (omega arith) in
    let y = (greatest_ceil (dhi *ℤ pos 256000) (a * 1) (b * 1) -ℤ least_floor (dlo *ℤ pos 256000) (a * 1) (b * 1) -ℤ pos 2) *ℤ pos 1 in
    let short = without_divisor (1200 * 2 ^ 48 * 256000) 14 a e y (dhi *ℤ pos 256000 -ℤ dlo *ℤ pos 256000) (omega arith) small far in
    litre_width (greatest_ceil (dhi *ℤ pos 256000) (a * 1) (b * 1)) (least_floor (dlo *ℤ pos 256000) (a * 1) (b * 1)) (wf + wr) (litre_quotient (y -ℤ pos 14) dlo dhi a (wf + wr) least narrow short)
  where
    litre_width : (hi lo : ℤ) (w : ℕ) → (pos 900 *ℤ ((hi -ℤ lo -ℤ pos 2) *ℤ pos 1 -ℤ pos 14)) ≤ℤ pos (74 + 116 * w) → (pos 15 *ℤ (hi -ℤ lo)) ≤ℤ pos (241 + 2 * w)
    litre_width hi lo w h = omega (arith, ints, h)

-- ---- the heat coefficient
factor_quotient : (z dlo dhi : ℤ) (a : ℕ) → 9 * 2 ^ 56 ≤ a * 10000 → ((dhi -ℤ dlo) *ℤ pos (10 ^ 9)) ≤ℤ pos (74 * 2 ^ 48)
    → (z *ℤ pos a) ≤ℤ (dhi *ℤ pos 256000000000000 -ℤ dlo *ℤ pos 256000000000000) → z ≤ℤ pos 83000000
factor_quotient (pos n) dlo dhi a least narrow h =
    let t : n * (9 * 2 ^ 56) ≤ n * (a * 10000) = mul-le-mul_left n least in
    omega (arith, ints, t, narrow, h)
factor_quotient (negsuc n) dlo dhi a least narrow h = omega (arith, ints)

factor_apart : (m a b e : ℕ) (dlo dhi : ℤ) → b ≡ a + e → 0 < m → 9 * 2 ^ 56 ≤ a * 10000 → e * 10 ^ 15 ≤ 268 * 2 ^ 56 → dlo ≤ℤ dhi → neg_ℤ (pos (1200 * 2 ^ 48)) ≤ℤ dlo → dhi ≤ℤ pos (1200 * 2 ^ 48)
    → ((dhi -ℤ dlo) *ℤ pos (10 ^ 9)) ≤ℤ pos (74 * 2 ^ 48)
    → ((greatest_ceil (dhi *ℤ pos 256000000000000) (a * m) (b * m) -ℤ least_floor (dlo *ℤ pos 256000000000000) (a * m) (b * m) -ℤ pos 2) *ℤ pos m) ≤ℤ pos (5 * 10 ^ 8)
factor_apart m a b e dlo dhi wider m_above least close order low high narrow =
    let far = apart_ends 256000000000000 m a b e dlo dhi wider m_above (omega arith) order low high in
    let small : (1200 * 2 ^ 48 * 256000000000000) * e ≤ 398000000 * (a * (a + e)) = small_volumes (1200 * 2 ^ 48 * 256000000000000) 398000000 a e least (omega arith) in
    let y = (greatest_ceil (dhi *ℤ pos 256000000000000) (a * m) (b * m) -ℤ least_floor (dlo *ℤ pos 256000000000000) (a * m) (b * m) -ℤ pos 2) *ℤ pos m in
    let short = without_divisor (1200 * 2 ^ 48 * 256000000000000) 398000000 a e y (dhi *ℤ pos 256000000000000 -ℤ dlo *ℤ pos 256000000000000) (omega arith) small far in
    factor_width (greatest_ceil (dhi *ℤ pos 256000000000000) (a * m) (b * m)) (least_floor (dlo *ℤ pos 256000000000000) (a * m) (b * m)) m (factor_quotient (y -ℤ pos 398000000) dlo dhi a least narrow short)
  where
    factor_width : (hi lo : ℤ) (m : ℕ) → ((hi -ℤ lo -ℤ pos 2) *ℤ pos m -ℤ pos 398000000) ≤ℤ pos 83000000 → ((hi -ℤ lo -ℤ pos 2) *ℤ pos m) ≤ℤ pos (5 * 10 ^ 8)
    factor_width hi lo m h = omega (arith, ints, h)

-- ---- the ends for the enclosures of the code
volumes : (vlo vhi : ℤ) (per : ℕ) → vlo ≤ℤ vhi → pos (9 * 2 ^ 56) ≤ℤ (vlo *ℤ pos 10000) → ((vhi -ℤ vlo) *ℤ pos (10 ^ 15)) ≤ℤ pos (per * 2 ^ 56)
    → (9 * 2 ^ 56 ≤ unsigned_abs vlo * 10000) × ((unsigned_abs vhi - unsigned_abs vlo) * 10 ^ 15 ≤ per * 2 ^ 56) × (unsigned_abs vhi ≡ unsigned_abs vlo + (unsigned_abs vhi - unsigned_abs vlo))
volumes (negsuc a) vhi per order least width = absurd (omega (arith, ints, least))
volumes (pos a) (negsuc b) per order least width = absurd (omega (arith, ints, order))
volumes (pos a) (pos b) per order least width =
    let up : a ≤ b = omega (arith, ints, order) in
    (omega (arith, ints, least), omega (arith, ints, width, up), omega (arith, up))

pub litre_ends : (vlo vhi dlo dhi : ℤ) (wf wr : ℕ) → vlo ≤ℤ vhi → pos (9 * 2 ^ 56) ≤ℤ (vlo *ℤ pos 10000) → ((vhi -ℤ vlo) *ℤ pos (10 ^ 15)) ≤ℤ pos (9268 * 2 ^ 56)
    → dlo ≤ℤ dhi → neg_ℤ (pos (1200 * 2 ^ 48)) ≤ℤ dlo → dhi ≤ℤ pos (1200 * 2 ^ 48) → ((dhi -ℤ dlo) *ℤ pos (10 ^ 9)) ≤ℤ pos ((74 + 116 * (wf + wr)) * 2 ^ 48)
    → (pos 15 *ℤ (greatest_ceil (dhi *ℤ pos 256000) (unsigned_abs vlo * 1) (unsigned_abs vhi * 1) -ℤ least_floor (dlo *ℤ pos 256000) (unsigned_abs vlo * 1) (unsigned_abs vhi * 1))) ≤ℤ pos (241 + 2 * (wf + wr))
litre_ends vlo vhi dlo dhi wf wr rising least close order low high narrow =
    let v = volumes vlo vhi 9268 rising least close in
    litre_apart (unsigned_abs vlo) (unsigned_abs vhi) _ wf wr dlo dhi v.2 v.0 v.1 order low high narrow

-- at the coarser width
coarser : (hi lo : ℤ) (m : ℕ) → ((hi -ℤ lo -ℤ pos 2) *ℤ pos m) ≤ℤ pos (5 * 10 ^ 8) → ((hi -ℤ lo -ℤ pos 1000) *ℤ pos m) ≤ℤ pos (10 ^ 10)
coarser hi lo m h =
    let less : ((hi -ℤ lo -ℤ pos 1000) *ℤ pos m) ≤ℤ ((hi -ℤ lo -ℤ pos 2) *ℤ pos m) = mul-le_pos m (omega (arith, ints)) in
    omega (arith, ints, h, less)

pub factor_ends : (m : ℕ) (vlo vhi dlo dhi : ℤ) → 0 < m → vlo ≤ℤ vhi → pos (9 * 2 ^ 56) ≤ℤ (vlo *ℤ pos 10000) → ((vhi -ℤ vlo) *ℤ pos (10 ^ 15)) ≤ℤ pos (268 * 2 ^ 56)
    → dlo ≤ℤ dhi → neg_ℤ (pos (1200 * 2 ^ 48)) ≤ℤ dlo → dhi ≤ℤ pos (1200 * 2 ^ 48) → ((dhi -ℤ dlo) *ℤ pos (10 ^ 9)) ≤ℤ pos (74 * 2 ^ 48)
    → ((((greatest_ceil (dhi *ℤ pos 256000000000000) (unsigned_abs vlo * m) (unsigned_abs vhi * m) -ℤ least_floor (dlo *ℤ pos 256000000000000) (unsigned_abs vlo * m) (unsigned_abs vhi * m) -ℤ pos 2) *ℤ pos m) ≤ℤ pos (5 * 10 ^ 8))
    × (((greatest_ceil (dhi *ℤ pos 256000000000000) (unsigned_abs vlo * m) (unsigned_abs vhi * m) -ℤ least_floor (dlo *ℤ pos 256000000000000) (unsigned_abs vlo * m) (unsigned_abs vhi * m) -ℤ pos 1000) *ℤ pos m) ≤ℤ pos (10 ^ 10)))
factor_ends m vlo vhi dlo dhi above rising least close order low high narrow =
    let v = volumes vlo vhi 268 rising least close in
    let near = factor_apart m (unsigned_abs vlo) (unsigned_abs vhi) _ dlo dhi v.2 above v.0 v.1 order low high narrow in
    (near, coarser (greatest_ceil (dhi *ℤ pos 256000000000000) (unsigned_abs vlo * m) (unsigned_abs vhi * m)) (least_floor (dlo *ℤ pos 256000000000000) (unsigned_abs vlo * m) (unsigned_abs vhi * m)) m near)

-- the ends are at most 1.4 * 10^9 from 0
litre_room : (n : ℤ) (a : ℕ) → 9 * 2 ^ 56 ≤ a * 10000 → neg_ℤ (pos (1200 * 2 ^ 48)) ≤ℤ n → neg_ℤ (pos (1400000000 * (a * 1))) ≤ℤ (n *ℤ pos 256000)
litre_room n a least h = omega (arith, ints, least, h)

litre_room_above : (n : ℤ) (a : ℕ) → 9 * 2 ^ 56 ≤ a * 10000 → n ≤ℤ pos (1200 * 2 ^ 48) → (n *ℤ pos 256000) ≤ℤ pos (1400000000 * (a * 1))
litre_room_above n a least h = omega (arith, ints, least, h)

litre_ranges : (a b : ℕ) (dlo dhi : ℤ) → a ≤ b → 9 * 2 ^ 56 ≤ a * 10000 → dlo ≤ℤ dhi → neg_ℤ (pos (1200 * 2 ^ 48)) ≤ℤ dlo → dhi ≤ℤ pos (1200 * 2 ^ 48)
    → IsWithin 1400000000 (least_floor (dlo *ℤ pos 256000) (a * 1) (b * 1)) × IsWithin 1400000000 (greatest_ceil (dhi *ℤ pos 256000) (a * 1) (b * 1))
litre_ranges a b dlo dhi rising least order low high =
    let above : 0 < a * 1 = omega arith in
    let wider : a * 1 ≤ b * 1 = omega arith in
    let first = least_floor-least 1400000000 (dlo *ℤ pos 256000) (a * 1) (b * 1) above wider (litre_room dlo a least low) in
    let last = greatest_ceil-most 1400000000 (dhi *ℤ pos 256000) (a * 1) (b * 1) above wider (litre_room_above dhi a least high) in
    let between = ends_ordered (dlo *ℤ pos 256000) (dhi *ℤ pos 256000) (a * 1) (b * 1) above (mul-le_pos 256000 order) in
    (record { low = first; high = ≤ℤ_trans between last }, record { low = ≤ℤ_trans first between; high = last })

pub litre_within : (vlo vhi dlo dhi : ℤ) → vlo ≤ℤ vhi → pos (9 * 2 ^ 56) ≤ℤ (vlo *ℤ pos 10000) → dlo ≤ℤ dhi → neg_ℤ (pos (1200 * 2 ^ 48)) ≤ℤ dlo → dhi ≤ℤ pos (1200 * 2 ^ 48)
    → IsWithin 1400000000 (least_floor (dlo *ℤ pos 256000) (unsigned_abs vlo * 1) (unsigned_abs vhi * 1)) × IsWithin 1400000000 (greatest_ceil (dhi *ℤ pos 256000) (unsigned_abs vlo * 1) (unsigned_abs vhi * 1))
litre_within (negsuc a) vhi dlo dhi rising least order low high = absurd (omega (arith, ints, least))
litre_within (pos a) (negsuc b) dlo dhi rising least order low high = absurd (omega (arith, ints, rising))
litre_within (pos a) (pos b) dlo dhi rising least order low high = litre_ranges a b dlo dhi (omega (arith, ints, rising)) (omega (arith, ints, least)) order low high
