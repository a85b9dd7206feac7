-- Powers so high that 2^24 times them stays below 1.
use Rattle.std.proofs.Common.{◌≡◌, ℕ, ◌+◌, ◌-◌, ◌*◌, ◌^◌, ◌<◌, ◌≤◌, arith, lit<, lit≤, ap, ◌∙◌, ℤ, pos, negsuc, ◌*ℤ◌, ◌≤ℤ◌, unsigned_abs}
use Rattle.std.proofs.lemmas.Int.{ints}
use Rattle.std.proofs.lemmas.Nat.{pow-add}
use native.Mathlib.Nat.{pow-le-pow_left, mul-le-mul, mul-le-mul_right, mul-pos, one-le-pow, le_of_mul-le-mul_right}
use Rattle.number_model.specs.Rounding.{floor_div, ceil_div}
use Rattle.number_model.proofs.Roundings.{floor_div-scale_up, ceil_div-scale_up}
use Rattle.interval_num.specs.Ends.{IsPower}

raised_step : (u n A B C E : ℕ) → u * (A * E) ≤ (B * E) * C + n * (A * E) → n ≤ 64 → B * C + 64 * A ≤ 2 ^ 32 * A → 0 < A * E → u ≤ 2 ^ 32
raised_step u n A B C E h few fits above =
    let rest : n * (A * E) ≤ 64 * (A * E) = mul-le-mul_right (A * E) few in
    let all : (B * C + 64 * A) * E ≤ 2 ^ 32 * A * E = mul-le-mul_right E fits in
    le_of_mul-le-mul_right {m = u} {n = 2 ^ 32} {k = A * E} (omega (arith, h, rest, all)) above

raised_abs : (n l u : ℕ) → 29 ≤ n → n ≤ 64 → l ≤ 35 * 2 ^ 50 → u * (2 ^ 56) ^ n ≤ l ^ n * 2 ^ 56 + n * (2 ^ 56) ^ n → u ≤ 2 ^ 32
raised_abs n l u least few small h =
    let e : n ≡ 29 + (n - 29) = omega arith in
    let whole : (2 ^ 56) ^ n ≡ (2 ^ 56) ^ 29 * (2 ^ 56) ^ (n - 29) = ap (λ k. (2 ^ 56) ^ k) e ∙ pow-add (2 ^ 56) 29 (n - 29) in
    let split : l ^ n ≡ l ^ 29 * l ^ (n - 29) = ap (λ k. l ^ k) e ∙ pow-add l 29 (n - 29) in
    let under : l ≤ 2 ^ 56 = omega arith in
    let most : l ^ 29 * l ^ (n - 29) ≤ (35 * 2 ^ 50) ^ 29 * (2 ^ 56) ^ (n - 29) = mul-le-mul (pow-le-pow_left small 29) (pow-le-pow_left under (n - 29)) in
    let most' : l ^ n ≤ (35 * 2 ^ 50) ^ 29 * (2 ^ 56) ^ (n - 29) = rw split most in
    let above : 0 < (2 ^ 56) ^ 29 * (2 ^ 56) ^ (n - 29) = mul-pos (one-le-pow 29 (2 ^ 56) (lit< tt)) (one-le-pow (n - 29) (2 ^ 56) (lit< tt)) in
    raised_step u n ((2 ^ 56) ^ 29) ((35 * 2 ^ 50) ^ 29) (2 ^ 56) ((2 ^ 56) ^ (n - 29))
    (chain u n ((2 ^ 56) ^ n) (l ^ n) ((2 ^ 56) ^ 29 * (2 ^ 56) ^ (n - 29)) ((35 * 2 ^ 50) ^ 29 * (2 ^ 56) ^ (n - 29)) (2 ^ 56) whole most' h)
    few (lit≤ tt) above
  where
    chain : (u n w p w' p' c : ℕ) → w ≡ w' → p ≤ p' → u * w ≤ p * c + n * w → u * w' ≤ p' * c + n * w'
    chain u n w p w' p' c e k h = rw (← e) (omega (arith, h, mul-le-mul_right c k))

at_most : (z : ℤ) (n : ℕ) → unsigned_abs z ≤ n → z ≤ℤ pos n
at_most (pos a) n h = omega (arith, ints)
at_most (negsuc a) n h = omega (arith, ints)

pub raised_small : (n : ℕ) (lo hi lo' hi' : ℤ) → 29 ≤ n → n ≤ 64 → pos 0 ≤ℤ lo → lo ≤ℤ hi → hi ≤ℤ pos (35 * 2 ^ 50) → IsPower 56 n lo hi lo' hi' → hi' ≤ℤ pos (2 ^ 32)
raised_small n lo hi lo' hi' least few low order high p =
    at_most hi' (2 ^ 32) (raised_abs n (unsigned_abs hi) (unsigned_abs hi') least few (omega (arith, ints)) p.high_below)

-- the scale 2^32 to the scale 2^56
pub floor_raised : (z : ℤ) → floor_div (z *ℤ pos (2 ^ 56)) (2 ^ 32) ≡ z *ℤ pos (2 ^ 24)
floor_raised z = floor_div-scale_up 32 56 z (lit≤ tt)

pub ceil_raised : (z : ℤ) → ceil_div (z *ℤ pos (2 ^ 56)) (2 ^ 32) ≡ z *ℤ pos (2 ^ 24)
ceil_raised z = ceil_div-scale_up 32 56 z (lit≤ tt)
