-- Quotients and products by powers of two, five and ten.
use Rattle.std.proofs.Common.{◌≡◌, ℕ, ◌+◌, ◌-◌, ◌*◌, ◌/◌, ◌%◌, ◌^◌, ◌<◌, ◌≤◌, min, inl, inr, arith, lit<, lit≤, ap, sym, ◌∙◌, add-one, suc-le-suc}
use Rattle.std.proofs.lemmas.Bool.{cases_lt}
use Rattle.std.proofs.Math.Nat.{div-div-eq-div-mul, mul-div-mul_right, mod-eq_of_lt}
use Rattle.std.proofs.lemmas.Nat.{mul-pow, pow-add, pow_pos, div-mul-add, div-add-mod', leading_length}
use Rattle.std.specs.Int.Count.{count_leading_zeros}
use native.Mathlib.Nat.{le_trans, mul-le-mul_left, pow-le-pow_right, lt_of_mul-lt-mul_right, pow-suc, one-le-pow, mul-pos, le_of_mul-le-mul_right, mul-le-mul}

-- ---- long division
pub whole_small : (w r d m i n : ℕ) → w * d + r ≡ m * 2 ^ i → i ≤ n → m * 2 ^ n < 2 ^ 62 * d → w < 2 ^ 62
whole_small w r d m i n e h k =
    let up : m * 2 ^ i ≤ m * 2 ^ n = mul-le-mul_left m (pow-le-pow_right {n = 2} (lit< tt) h) in
    lt_of_mul-lt-mul_right d {m = w} {n = 2 ^ 62} (omega arith)

-- a remainder below d has room for as many more bits as d has leading zeros
pub room_some : (d : ℕ) → d < 2 ^ 127 → 0 < count_leading_zeros 128 d
room_some d h =
    let length = leading_length 128 d (omega arith) in
    elim (cases_lt 0 (count_leading_zeros 128 d)) [
      | inl some ↦ some
      | inr none ↦ (let all : length.0 ≡ 128 = omega (arith, length.1, none) in let much = rw all at length.3 in omega (arith, much))
    ]

pub room_fits : (d r bits : ℕ) → d < 2 ^ 127 → r < d → bits ≤ count_leading_zeros 128 d → r * 2 ^ bits < 2 ^ 128
room_fits d r bits h small few =
    let length = leading_length 128 d (omega arith) in
    let up : 2 ^ bits ≤ 2 ^ count_leading_zeros 128 d = pow-le-pow_right {n = 2} (lit< tt) few in
    let all : 2 ^ count_leading_zeros 128 d * 2 ^ length.0 ≡ 2 ^ 128 = sym (pow-add 2 (count_leading_zeros 128 d) length.0) ∙ ap (λ k. 2 ^ k) length.1 in
    let most : (r + 1) * 2 ^ bits ≤ 2 ^ length.0 * 2 ^ count_leading_zeros 128 d = mul-le-mul {n₂ = 2 ^ length.0} {m₂ = 2 ^ count_leading_zeros 128 d} (omega (arith, length.2)) up in
    let some : 0 < 2 ^ bits = pow_pos bits in
    omega (arith, most, all, some)

shifted : (w r d m i bits : ℕ) → w * d + r ≡ m * 2 ^ i → (w * 2 ^ bits + r * 2 ^ bits / d) * d + r * 2 ^ bits % d ≡ m * 2 ^ (i + bits)
shifted w r d m i bits e =
    let all : (w * d + r) * 2 ^ bits ≡ m * 2 ^ i * 2 ^ bits = ap (λ t. t * 2 ^ bits) e in
    rw (pow-add 2 i bits) (omega (arith, all, div-add-mod' (r * 2 ^ bits) d))

-- one turn of the loop, in numbers that wrap at 2^128 and don't
pub turn : (w r d m i bits n : ℕ) → w * d + r ≡ m * 2 ^ i → i + bits ≤ n → m * 2 ^ n < 2 ^ 62 * d → r * 2 ^ bits < 2 ^ 128 → let next = r * 2 ^ bits % 2 ^ 128 in let whole = w * 2 ^ bits % 2 ^ 128 + next / d in (whole * d + next % d ≡ m * 2 ^ (i + bits)) × (whole < 2 ^ 62)
turn w r d m i bits n e h size fits =
    let exact = shifted w r d m i bits e in
    let small = whole_small (w * 2 ^ bits + r * 2 ^ bits / d) (r * 2 ^ bits % d) d m (i + bits) n exact h size in
    rw (mod-eq_of_lt fits, mod-eq_of_lt {n = w * 2 ^ bits} {m = 2 ^ 128} (omega (arith, small))) (exact, small)

-- ---- powers
pub five_small : (n : ℕ) → n ≤ 54 → 5 ^ n < 2 ^ 127
five_small n h = le_trans (suc-le-suc (pow-le-pow_right {n = 5} (lit< tt) h)) (lit≤ tt)

pub five_above : (n : ℕ) → 0 < 5 ^ n
five_above n = one-le-pow n 5 (lit< tt)

pub next_quotient : (q d i : ℕ) → q / d ^ i / d ≡ q / d ^ (i + 1)
next_quotient q d i = div-div-eq-div-mul q (d ^ i) d ∙ ap (λ t. q / t) (rw add-one (sym (pow-suc d i)))

-- the factors of a product of at least 1 are at most the product
pub left_factor : (a b n : ℕ) → 0 < b → a * b ≤ n → a ≤ n
left_factor a b n above h =
    let one : 1 ≤ b = omega arith in
    omega (arith, h, mul-le-mul_left a one)

pub right_factor : (a b n : ℕ) → 0 < a → a * b ≤ n → b ≤ n
right_factor a b n above h =
    let one : 1 ≤ a = omega arith in
    omega (arith, h, mul-le-mul_left b one)

-- ---- quotients by powers of five
pub direct_size : (m p s : ℕ) → p ≤ 54 → m * 2 ^ s ≤ 2 ^ 61 * 5 ^ p → m * 2 ^ s < 2 ^ 62 * 5 ^ p
direct_size m p s h k = omega (arith, k, five_above p)

pub far_size : (m s : ℕ) → m < 2 ^ 64 → s ≤ 102 → m * 2 ^ s < 2 ^ 62 * 5 ^ 54
far_size m s h k =
    let two : 2 ^ s ≤ 2 ^ 102 = pow-le-pow_right {n = 2} (lit< tt) k in
    let all : m * 2 ^ s ≤ 2 ^ 64 * 2 ^ 102 = mul-le-mul {n₂ = 2 ^ 64} {m₂ = 2 ^ 102} (omega arith) two in
    omega arith

pub first_size : (m p s : ℕ) → m < 2 ^ 64 → p + s ≤ 156 → m * 2 ^ s ≤ 2 ^ 61 * 5 ^ p → m * 2 ^ s < 2 ^ 62 * 5 ^ min p 54
first_size m p s h k size =
    elim (cases_lt 54 p) [
      | inl far ↦ (let e : min p 54 ≡ 54 = omega arith in rw e (far_size m s h (omega arith)))
      | inr near ↦ (let e : min p 54 ≡ p = omega arith in rw e (direct_size m p s near size))
    ]

pub split_fives : (n p q : ℕ) → q ≤ p → n / 5 ^ q / 5 ^ (p - q) ≡ n / 5 ^ p
split_fives n p q h =
    let e : q + (p - q) ≡ p = omega arith in
    div-div-eq-div-mul n (5 ^ q) (5 ^ (p - q)) ∙ ap (λ t. n / t) (sym (pow-add 5 q (p - q)) ∙ ap (λ k. 5 ^ k) e)

-- ---- quotients by powers of ten
two_above : (n : ℕ) → 0 < 2 ^ n
two_above n = pow_pos n

pub tens_of_fives : (m p s : ℕ) → p ≤ s → m * 2 ^ (s - p) / 5 ^ p ≡ m * 2 ^ s / 10 ^ p
tens_of_fives m p s h =
    let sum : (s - p) + p ≡ s = omega arith in
    let up : m * 2 ^ (s - p) * 2 ^ p ≡ m * 2 ^ s = omega (arith, ap (λ t. m * t) (sym (pow-add 2 (s - p) p) ∙ ap (λ k. 2 ^ k) sum)) in
    sym (mul-div-mul_right {m = 2 ^ p} (m * 2 ^ (s - p)) (5 ^ p) (two_above p)) ∙ ap (λ t. t / (5 ^ p * 2 ^ p)) up ∙ ap (λ t. m * 2 ^ s / t) (sym (mul-pow 5 2 p))

pub fives_size : (m p s : ℕ) → p ≤ s → m * 2 ^ s ≤ 2 ^ 61 * 10 ^ p → m * 2 ^ (s - p) ≤ 2 ^ 61 * 5 ^ p
fives_size m p s h k =
    let sum : (s - p) + p ≡ s = omega arith in
    let up : m * 2 ^ (s - p) * 2 ^ p ≡ m * 2 ^ s = omega (arith, ap (λ t. m * t) (sym (pow-add 2 (s - p) p) ∙ ap (λ k. 2 ^ k) sum)) in
    let ten : 10 ^ p ≡ 5 ^ p * 2 ^ p = mul-pow 5 2 p in
    le_of_mul-le-mul_right {m = m * 2 ^ (s - p)} {n = 2 ^ 61 * 5 ^ p} {k = 2 ^ p} (omega (arith, up, k, ap (λ t. 2 ^ 61 * t) ten)) (two_above p)

pub tens_and_fives : (m p s : ℕ) → s ≤ p → m / 10 ^ (p - s) / 5 ^ s ≡ m * 2 ^ s / 10 ^ p
tens_and_fives m p s h =
    let sum : (p - s) + s ≡ p = omega arith in
    let ten : 10 ^ p ≡ 10 ^ (p - s) * 10 ^ s = ap (λ k. 10 ^ k) (sym sum) ∙ pow-add 10 (p - s) s in
    let all : 10 ^ (p - s) * 5 ^ s * 2 ^ s ≡ 10 ^ p = omega (arith, ten, ap (λ t. 10 ^ (p - s) * t) (mul-pow 5 2 s)) in
    div-div-eq-div-mul m (10 ^ (p - s)) (5 ^ s) ∙ sym (mul-div-mul_right {m = 2 ^ s} m (10 ^ (p - s) * 5 ^ s) (two_above s)) ∙ ap (λ t. m * 2 ^ s / t) all

-- ---- products
pub ten_above : (n : ℕ) → 0 < 10 ^ n
ten_above n = one-le-pow n 10 (lit< tt)

pub product_parts : (m p s : ℕ) → 0 < m → m * 10 ^ p * 2 ^ s ≤ 2 ^ 61 → (10 ^ p ≤ 2 ^ 61) × (2 ^ s ≤ 2 ^ 61) × (m * 10 ^ p ≤ 2 ^ 61)
product_parts m p s above h =
    let first : m * 10 ^ p ≤ 2 ^ 61 = left_factor (m * 10 ^ p) (2 ^ s) (2 ^ 61) (pow_pos s) h in
    let some : 0 < m * 10 ^ p = mul-pos above (ten_above p) in
    (right_factor m (10 ^ p) (2 ^ 61) above first, right_factor (m * 10 ^ p) (2 ^ s) (2 ^ 61) some h, first)
