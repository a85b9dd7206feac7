-- Powers of a number of at most d, kept at the scale d.
use Rattle.std.proofs.Common.{◌≡◌, ℕ, zero, suc, ◌+◌, ◌-◌, ◌*◌, ◌/◌, ◌%◌, ◌^◌, ◌<◌, ◌≤◌, arith, ap, ◌⊎◌, inl, inr}
use Rattle.std.proofs.lemmas.Bool.{cases_lt}
use Rattle.std.proofs.Common.{ℤ, pos, negsuc, ◌+ℤ◌, ◌-ℤ◌, ◌*ℤ◌, ◌≤ℤ◌, unsigned_abs}
use Rattle.std.proofs.lemmas.Int.{ints}
use Rattle.std.proofs.lemmas.Nat.{pow_pos, mul-pow, pow-add}
use Rattle.number_model.specs.Fraction.{Fraction, power}
use Rattle.number_model.specs.Enclosure.{Holds}
use Rattle.number_model.proofs.Same.{Holds-same, same_sym}
use Rattle.number_model.proofs.Powers.{power-pos}
use Rattle.interval_num.specs.Ends.{IsPower}
use Rattle.std.proofs.Math.Nat.{pow-le-pow_left, one-le-pow, pow-suc, pow-zero, mul-le-mul_right, mul-le-mul_left, div-mul-le_self, lt-div-mul-add, le_of_mul-le-mul_right, div-le_of_le-mul, mul-le-mul, div-lt_iff_lt-mul}

-- p is l^i / d^(i - 1), rounded down, at most i - 1 too low
pub record IsPowerBelow (d l i p : ℕ) : Type 0 where
  pub range : p ≤ d
  pub below : p * d ^ i ≤ l ^ i * d
  pub above : l ^ i * d ≤ (p + (i - 1)) * d ^ i

pow_one : (n : ℕ) → n ^ 1 ≡ n
pow_one n = omega (arith, pow-suc n zero, ap (λ t. t * n) (pow-zero n))

pub IsPowerBelow-one : (d l : ℕ) → l ≤ d → IsPowerBelow d l 1 l
IsPowerBelow-one d l h = record {
  range = h;
  below = rw (pow_one d, pow_one l) (omega arith);
  above = rw (pow_one d, pow_one l) (omega arith);
}

product_below : (d p q r P Q A B : ℕ) → 0 < d → r * d ≤ p * q → p * P ≤ A * d → q * Q ≤ B * d → r * (P * Q) ≤ (A * B) * d
product_below d p q r P Q A B above h k m =
    let all : (p * P) * (q * Q) ≤ (A * d) * (B * d) = mul-le-mul k m in
    let times : (r * d) * (P * Q) ≤ (p * q) * (P * Q) = mul-le-mul_right (P * Q) h in
    le_of_mul-le-mul_right {m = r * (P * Q)} {n = (A * B) * d} {k = d} (omega (arith, all, times)) above

product_above : (d p q r u v P Q A B : ℕ) → 0 < d → p * q ≤ r * d + d → p ≤ d → A * d ≤ (p + u) * P → B * d ≤ (q + v) * Q → B ≤ Q
    → (A * B) * d ≤ (r + (u + v + 1)) * (P * Q)
product_above d p q r u v P Q A B above h small k m le =
    let first : (A * d) * (B * d) ≤ ((p + u) * P) * (B * d) = mul-le-mul_right (B * d) k in
    let second : (p * P) * (B * d) ≤ (p * P) * ((q + v) * Q) = mul-le-mul_left (p * P) m in
    let third : (u * P * d) * B ≤ (u * P * d) * Q = mul-le-mul_left (u * P * d) le in
    let fourth : (p * q) * (P * Q) ≤ (r * d + d) * (P * Q) = mul-le-mul_right (P * Q) h in
    let fifth : p * (v * P * Q) ≤ d * (v * P * Q) = mul-le-mul_right (v * P * Q) small in
    le_of_mul-le-mul_right {m = (A * B) * d} {n = (r + (u + v + 1)) * (P * Q)} {k = d} (omega (arith, first, second, third, fourth, fifth)) above

errors : (a b : ℕ) → 1 ≤ a → 1 ≤ b → (a - 1) + (b - 1) + 1 ≡ a + b - 1
errors a b h k = omega arith

-- the product of two powers
pub IsPowerBelow-product : (d l a b p q : ℕ) → 0 < d → l ≤ d → 1 ≤ a → 1 ≤ b → IsPowerBelow d l a p → IsPowerBelow d l b q → IsPowerBelow d l (a + b) (p * q / d)
IsPowerBelow-product d l a b p q above small ha hb v w = record {
  range = div-le_of_le-mul d (mul-le-mul v.range w.range);
  below = rw (pow-add d a b, pow-add l a b) (product_below d p q (p * q / d) (d ^ a) (d ^ b) (l ^ a) (l ^ b) above (div-mul-le_self (p * q) d) v.below w.below);
  above =
      let last : p * q < p * q / d * d + d = lt-div-mul-add above in
      rw (pow-add d a b, pow-add l a b, ← errors a b ha hb) (product_above d p q (p * q / d) (a - 1) (b - 1) (d ^ a) (d ^ b) (l ^ a) (l ^ b) above (omega arith) v.range v.above w.above (pow-le-pow_left small b));
}

parts : (n : ℕ) → (n % 2 ≡ 0 → ⊥) → n / 2 + n / 2 + 1 ≡ n
parts n odd = by (cases_lt 0 (n % 2)) where
  by : (0 < n % 2) ⊎ (n % 2 ≤ 0) → n / 2 + n / 2 + 1 ≡ n
  by (inl one) = omega (arith, one)
  by (inr none) = absurd (odd (omega arith))

begun : (n : ℕ) → 1 ≤ n → (n ≡ 1 → ⊥) → 1 ≤ n / 2
begun n some more = by (cases_lt n 2) where
  by : (n < 2) ⊎ (2 ≤ n) → 1 ≤ n / 2
  by (inl one) = absurd (more (omega (arith, some)))
  by (inr two) = omega (arith, two)

-- by a square, and for an odd exponent one more factor
pub IsPowerBelow-even : (d l n h q : ℕ) → 0 < d → l ≤ d → 1 ≤ n → (n ≡ 1 → ⊥) → n % 2 ≡ 0 → IsPowerBelow d l (n / 2) h → q ≡ h * h / d → IsPowerBelow d l n q
IsPowerBelow-even d l n h q above small some more even w is =
    let halves : n / 2 + n / 2 ≡ n = omega (arith, even) in
    let half : 1 ≤ n / 2 = omega (arith, even) in
    rw is (rw halves at (IsPowerBelow-product d l (n / 2) (n / 2) h h above small half half w w))

pub IsPowerBelow-odd : (d l n h q r : ℕ) → 0 < d → l ≤ d → 1 ≤ n → (n ≡ 1 → ⊥) → (n % 2 ≡ 0 → ⊥) → IsPowerBelow d l (n / 2) h → q ≡ h * h / d → r ≡ q * l / d → IsPowerBelow d l n r
IsPowerBelow-odd d l n h q r above small some more odd w is last =
    let halves : n / 2 + n / 2 + 1 ≡ n = parts n odd in
    let half : 1 ≤ n / 2 = begun n some more in
    let square : IsPowerBelow d l (n / 2 + n / 2) q = rw is (IsPowerBelow-product d l (n / 2) (n / 2) h h above small half half w w) in
    rw last (rw halves at (IsPowerBelow-product d l (n / 2 + n / 2) 1 q l above small (omega arith) (omega arith) square (IsPowerBelow-one d l small)))

-- p is l^i / d^(i - 1), rounded up, at most i - 1 too high
pub record IsPowerAbove (d l i p : ℕ) : Type 0 where
  pub range : p ≤ d
  pub above : l ^ i * d ≤ p * d ^ i
  pub below : p * d ^ i ≤ l ^ i * d + (i - 1) * d ^ i

pub IsPowerAbove-one : (d l : ℕ) → l ≤ d → IsPowerAbove d l 1 l
IsPowerAbove-one d l h = record {
  range = h;
  above = rw (pow_one d, pow_one l) (omega arith);
  below = rw (pow_one d, pow_one l) (omega arith);
}

up_above : (d p q r P Q A B : ℕ) → 0 < d → p * q ≤ r * d → A * d ≤ p * P → B * d ≤ q * Q → (A * B) * d ≤ r * (P * Q)
up_above d p q r P Q A B above h k m =
    let all : (A * d) * (B * d) ≤ (p * P) * (q * Q) = mul-le-mul k m in
    let times : (p * q) * (P * Q) ≤ (r * d) * (P * Q) = mul-le-mul_right (P * Q) h in
    le_of_mul-le-mul_right {m = (A * B) * d} {n = r * (P * Q)} {k = d} (omega (arith, all, times)) above

up_below : (d p q r u v P Q A B : ℕ) → 0 < d → r * d ≤ p * q + d → q ≤ d → p * P ≤ A * d + u * P → q * Q ≤ B * d + v * Q → A ≤ P
    → r * (P * Q) ≤ (A * B) * d + (u + v + 1) * (P * Q)
up_below d p q r u v P Q A B above h small k m le =
    let first : (r * d) * (P * Q) ≤ (p * q + d) * (P * Q) = mul-le-mul_right (P * Q) h in
    let second : (p * P) * (q * Q) ≤ (A * d + u * P) * (q * Q) = mul-le-mul_right (q * Q) k in
    let third : (A * d) * (q * Q) ≤ (A * d) * (B * d + v * Q) = mul-le-mul_left (A * d) m in
    let fourth : (u * P * Q) * q ≤ (u * P * Q) * d = mul-le-mul_left (u * P * Q) small in
    let fifth : (v * Q * d) * A ≤ (v * Q * d) * P = mul-le-mul_left (v * Q * d) le in
    le_of_mul-le-mul_right {m = r * (P * Q)} {n = (A * B) * d + (u + v + 1) * (P * Q)} {k = d} (omega (arith, first, second, third, fourth, fifth)) above

pub IsPowerAbove-product : (d l a b p q : ℕ) → 0 < d → l ≤ d → 1 ≤ a → 1 ≤ b → IsPowerAbove d l a p → IsPowerAbove d l b q → IsPowerAbove d l (a + b) ((p * q + (d - 1)) / d)
IsPowerAbove-product d l a b p q above small ha hb v w =
    let r = (p * q + (d - 1)) / d in
    let at_most : r * d ≤ p * q + d = omega (arith, div-mul-le_self (p * q + (d - 1)) d) in
    let at_least : p * q ≤ r * d = omega (arith, lt-div-mul-add {a = p * q + (d - 1)} above) in
    let square : p * q ≤ d * d = mul-le-mul v.range w.range in
    let low : r < d + 1 = (div-lt_iff_lt-mul above).1 (omega arith) in
    record {
      range = omega arith;
      above = rw (pow-add d a b, pow-add l a b) (up_above d p q r (d ^ a) (d ^ b) (l ^ a) (l ^ b) above at_least v.above w.above);
      below = rw (pow-add d a b, pow-add l a b, ← errors a b ha hb) (up_below d p q r (a - 1) (b - 1) (d ^ a) (d ^ b) (l ^ a) (l ^ b) above at_most w.range v.below w.below (pow-le-pow_left small a));
    }

-- by a square, and for an odd exponent one more factor
pub IsPowerAbove-even : (d l n h q : ℕ) → 0 < d → l ≤ d → 1 ≤ n → (n ≡ 1 → ⊥) → n % 2 ≡ 0 → IsPowerAbove d l (n / 2) h → q ≡ (h * h + (d - 1)) / d → IsPowerAbove d l n q
IsPowerAbove-even d l n h q above small some more even w is =
    let halves : n / 2 + n / 2 ≡ n = omega (arith, even) in
    let half : 1 ≤ n / 2 = omega (arith, even) in
    rw is (rw halves at (IsPowerAbove-product d l (n / 2) (n / 2) h h above small half half w w))

pub IsPowerAbove-odd : (d l n h q r : ℕ) → 0 < d → l ≤ d → 1 ≤ n → (n ≡ 1 → ⊥) → (n % 2 ≡ 0 → ⊥) → IsPowerAbove d l (n / 2) h → q ≡ (h * h + (d - 1)) / d → r ≡ (q * l + (d - 1)) / d → IsPowerAbove d l n r
IsPowerAbove-odd d l n h q r above small some more odd w is last =
    let halves : n / 2 + n / 2 + 1 ≡ n = parts n odd in
    let half : 1 ≤ n / 2 = begun n some more in
    let square : IsPowerAbove d l (n / 2 + n / 2) q = rw is (IsPowerAbove-product d l (n / 2) (n / 2) h h above small half half w w) in
    rw last (rw halves at (IsPowerAbove-product d l (n / 2 + n / 2) 1 q l above small (omega arith) (omega arith) square (IsPowerAbove-one d l small)))

low_pow : (s b n l a l' : ℕ) → 0 < s → l * b ≤ a * s → l' * s ^ n ≤ l ^ n * s → l' * b ^ n ≤ a ^ n * s
low_pow s b n l a l' above h below =
    let powers : (l * b) ^ n ≤ (a * s) ^ n = pow-le-pow_left h n in
    let split : l ^ n * b ^ n ≤ a ^ n * s ^ n = rw (mul-pow l b n, mul-pow a s n) at powers in
    le_of_mul-le-mul_right {m = l' * b ^ n} {n = a ^ n * s} {k = s ^ n} (omega (arith, mul-le-mul_right (b ^ n) below, mul-le-mul_right s split)) (one-le-pow n s above)

high_pow : (s b n h a h' : ℕ) → 0 < s → a * s ≤ h * b → h ^ n * s ≤ h' * s ^ n → a ^ n * s ≤ h' * b ^ n
high_pow s b n h a h' above le over =
    let powers : (a * s) ^ n ≤ (h * b) ^ n = pow-le-pow_left le n in
    let split : a ^ n * s ^ n ≤ h ^ n * b ^ n = rw (mul-pow a s n, mul-pow h b n) at powers in
    le_of_mul-le-mul_right {m = a ^ n * s} {n = h' * b ^ n} {k = s ^ n} (omega (arith, mul-le-mul_right (b ^ n) over, mul-le-mul_right s split)) (one-le-pow n s above)

-- by the sign of the numerator, which a fraction of at least 0 rules out to be negative
holds_pow : (s n : ℕ) (l h l' h' : ℕ) (num : ℤ) (den : ℕ) (positive : 0 < den) → l' * (2 ^ s) ^ n ≤ l ^ n * 2 ^ s → h ^ n * 2 ^ s ≤ h' * (2 ^ s) ^ n → Holds s (pos l) (pos h) (record { num = num; den = den; positive = positive }) → Holds s (pos l') (pos h') (power (record { num = num; den = den; positive = positive }) n)
holds_pow s n l h l' h' (pos a) den positive below above p = Holds-same {x = record { num = pos (a ^ n); den = den ^ n; positive = one-le-pow n den positive }} (same_sym (power-pos a den n positive)) (record {
  low = record { crossed = omega (arith, ints, low_pow (2 ^ s) den n l a l' (pow_pos s) (omega (arith, ints, p.low.crossed)) below) };
  high = record { crossed = omega (arith, ints, high_pow (2 ^ s) den n h a h' (pow_pos s) (omega (arith, ints, p.high.crossed)) above) };
})
holds_pow s n l h l' h' (negsuc a) den positive below above p = absurd (omega (arith, ints, p.low.crossed, pow_pos s))

-- the same at ends that are whole numbers of at least 0
pub Holds-pow : (s n : ℕ) (lo hi lo' hi' : ℤ) (x : Fraction) → pos 0 ≤ℤ lo → pos 0 ≤ℤ hi → pos 0 ≤ℤ lo' → pos 0 ≤ℤ hi' → IsPower s n lo hi lo' hi' → Holds s lo hi x → Holds s lo' hi' (power x n)
Holds-pow s n (pos l) (pos h) (pos l') (pos h') x a b c d e p = holds_pow s n l h l' h' x.num x.den x.positive e.low_below e.high_above p
Holds-pow s n (negsuc l) h l' h' x a b c d e p = absurd (omega (arith, ints, a))
Holds-pow s n (pos l) (negsuc h) l' h' x a b c d e p = absurd (omega (arith, ints, b))
Holds-pow s n (pos l) (pos h) (negsuc l') h' x a b c d e p = absurd (omega (arith, ints, c))
Holds-pow s n (pos l) (pos h) (pos l') (negsuc h') x a b c d e p = absurd (omega (arith, ints, d))

pub unsigned_abs-le : (a b : ℤ) → pos 0 ≤ℤ a → a ≤ℤ b → unsigned_abs a ≤ unsigned_abs b
unsigned_abs-le (pos a) (pos b) h k = omega (arith, ints)
unsigned_abs-le (pos a) (negsuc b) h k = absurd (omega (arith, ints))
unsigned_abs-le (negsuc a) b h k = absurd (omega (arith, ints))

-- what `power_floor` and `power_ceil` answer
pub powers_ordered : (s n l h l' h' : ℕ) → 0 < s → l ≤ h → l' * s ^ n ≤ l ^ n * s → h ^ n * s ≤ h' * s ^ n → l' ≤ h'
powers_ordered s n l h l' h' above le low high =
    le_of_mul-le-mul_right {m = l'} {n = h'} {k = s ^ n} (omega (arith, low, high, mul-le-mul_right s (pow-le-pow_left le n))) (one-le-pow n s above)

-- (l + w)^n exceeds l^n by at most n * w * d^(n - 1), where l + w is at most d
power_difference : (d l w n : ℕ) → l + w ≤ d → (l + w) ^ n * d ≤ l ^ n * d + n * w * d ^ n
power_difference d l w zero h = rw (pow-zero (l + w), pow-zero l, pow-zero d) (omega arith)
power_difference d l w (suc n) h =
    let small : l ^ n ≤ d ^ n = pow-le-pow_left (omega arith) n in
    rw (pow-suc (l + w) n, pow-suc l n, pow-suc d n) (difference_more d l w n ((l + w) ^ n) (l ^ n) (d ^ n) h small (power_difference d l w n h))
  where
    difference_more : (d l w n H L D : ℕ) → l + w ≤ d → L ≤ D → H * d ≤ L * d + n * w * D → (H * (l + w)) * d ≤ (L * l) * d + suc n * w * (D * d)
    difference_more d l w n H L D h small k = omega (arith, mul-le-mul_right (l + w) k, mul-le-mul_right (w * d) small, mul-le-mul_left (n * w * D) h)

-- the distance of the ends that `powi` answers
width_natural : (s n l w p q : ℕ) → l + w ≤ 2 ^ s → l ^ n * 2 ^ s ≤ (p + n) * (2 ^ s) ^ n → q * (2 ^ s) ^ n ≤ (l + w) ^ n * 2 ^ s + n * (2 ^ s) ^ n → q ≤ p + n * (w + 2)
width_natural s n l w p q small low high =
    le_of_mul-le-mul_right {m = q} {n = p + n * (w + 2)} {k = (2 ^ s) ^ n} (omega (arith, low, high, power_difference (2 ^ s) l w n small)) (one-le-pow n (2 ^ s) (pow_pos s))

pub IsPower-width : (s n : ℕ) (lo hi lo' hi' : ℤ) → pos 0 ≤ℤ lo → lo ≤ℤ hi → hi ≤ℤ pos (2 ^ s) → lo' ≤ℤ hi' → IsPower s n lo hi lo' hi' → (hi' -ℤ lo') ≤ℤ (pos n *ℤ ((hi -ℤ lo) +ℤ pos 2))
IsPower-width s n (pos l) (pos h) (pos p) (pos q) a b c d e =
    let w = h - l in
    let h_is : h ≡ l + w = omega (arith, ints, b) in
    let high : q * (2 ^ s) ^ n ≤ (l + w) ^ n * 2 ^ s + n * (2 ^ s) ^ n = rw h_is at e.high_below in
    let k : q ≤ p + n * (w + 2) = width_natural s n l w p q (omega (arith, ints, c)) e.low_above high in
    let bound_is : (pos h -ℤ pos l) +ℤ pos 2 ≡ pos (w + 2) = omega (arith, ints, b) in
    rw bound_is (omega (arith, ints, k))
IsPower-width s n (negsuc l) hi lo' hi' a b c d e = absurd (omega (arith, ints, a))
IsPower-width s n (pos l) (negsuc h) lo' hi' a b c d e = absurd (omega (arith, ints, b))
IsPower-width s n (pos l) (pos h) (negsuc p) hi' a b c d e = absurd (omega (arith, ints, e.low))
IsPower-width s n (pos l) (pos h) (pos p) (negsuc q) a b c d e = absurd (omega (arith, ints, d))
