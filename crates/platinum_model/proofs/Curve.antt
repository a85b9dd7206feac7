-- The resistance in naturals: it rises with the temperature from 0 to 180 °C.
use Rattle.std.proofs.Common.{◌≡◌, ℕ, ◌+◌, ◌-◌, ◌*◌, ◌^◌, ◌<◌, ◌≤◌, refl, sym, ap, ◌∙◌, arith, lit<, pos, ◌+ℤ◌, ◌*ℤ◌, neg_ℤ}
use native.Mathlib.Nat.{mul-le-mul_right, mul-le-mul_left, mul-pos}
use Rattle.number_model.specs.Fraction.{◌≤ℚ◌, ◌≈◌}
use Rattle.number_model.proofs.Ints.{diff, same_diff, ring, pos-diff}
use Rattle.platinum_model.specs.Element.{Element, resistance}
use Rattle.std.proofs.lemmas.Bool.{cases_lt}
use Rattle.std.proofs.Common.{◌⊎◌, inl, inr}
use Rattle.number_model.proofs.Same.{same_sym}
use Rattle.platinum_model.proofs.Order.{ratio, ratio-le, le-ratio, le_same}

-- 10^10 (d² + A n d - B n²), so that R(n / d) = R0 * bracket / (10^10 d²)
abbrev pub bracket : (a b n d : ℕ) → ℕ
bracket a b n d = 10 ^ 10 * (d * d) + a * (n * d) - b * (n * n)

-- the resistance rises up to 180 °C: its slope there, A - 360 B, is above 0
pub record IsRising (e : Element) : Type 0 where
  pub conducts : 0 < e.r0_uohm
  pub steep : 360 * e.b_e10 < e.a_e10

-- up to 180 °C the square term is the smaller one
pub square_le : (a b n d : ℕ) → 360 * b < a → n ≤ 180 * d → b * (n * n) ≤ a * (n * d)
square_le a b n d steep within =
    let narrow : b * n * n ≤ b * n * (180 * d) = mul-le-mul_left (b * n) within in
    let wide : 360 * b * (n * d) ≤ a * (n * d) = mul-le-mul_right (n * d) (omega arith) in
    omega arith

ring_law : (q r0 a b n d : ℕ)
    → (pos r0 *ℤ ((pos 1 *ℤ pos (q * d) +ℤ (pos a *ℤ pos n) *ℤ pos 1) *ℤ pos (q * (d * d)) +ℤ neg_ℤ (pos b *ℤ (pos n *ℤ pos n)) *ℤ pos (1 * (q * d)))) *ℤ pos (q * (d * d))
    ≡ diff (r0 * (q * (d * d) + a * (n * d))) (r0 * (b * (n * n))) *ℤ pos (1 * (1 * (q * d) * (q * (d * d))))
ring_law q r0 a b n d = simp ring (same_diff _ _ _ _ (omega arith))

no_loss : (r0 x y : ℕ) → y ≤ x → diff (r0 * x) (r0 * y) ≡ pos (r0 * (x - y))
no_loss r0 x y h =
    let back : (x - y) + y ≡ x = omega arith in
    let times : r0 * ((x - y) + y) ≡ r0 * x = ap (λ t. r0 * t) back in
    same_diff (r0 * x) (r0 * y) (r0 * (x - y)) 0 (omega arith) ∙ sym (pos-diff (r0 * (x - y)))

le_more : {y z : ℕ} (x : ℕ) → y ≤ z → y ≤ x + z
le_more x h = omega arith

-- R(n / d) as one fraction of naturals
pub resistance-ratio : (e : Element) (n d : ℕ) (above : 0 < d) (above' : 0 < 10 ^ 10 * (d * d)) → IsRising e → n ≤ 180 * d
    → resistance e (ratio n d above) ≈ ratio (e.r0_uohm * bracket e.a_e10 e.b_e10 n d) (10 ^ 10 * (d * d)) above'
unfolding resistance
resistance-ratio e n d above above' rising within =
    let small : e.b_e10 * (n * n) ≤ 10 ^ 10 * (d * d) + e.a_e10 * (n * d) = le_more (10 ^ 10 * (d * d)) (square_le e.a_e10 e.b_e10 n d rising.steep within) in
    record {
      crossed = ring_law (10 ^ 10) e.r0_uohm e.a_e10 e.b_e10 n d
          ∙ ap (λ t. t *ℤ pos (1 * (1 * (10 ^ 10 * d) * (10 ^ 10 * (d * d))))) (no_loss e.r0_uohm (10 ^ 10 * (d * d) + e.a_e10 * (n * d)) (e.b_e10 * (n * n)) small);
    }

-- with x = m d, y = n c and w = c d, for the temperatures m / c and n / d
g_rises : (q a b x k w : ℕ) → 360 * b < a → x + k ≤ 180 * w → q * (w * w) + a * (x * w) - b * (x * x) + k * w ≤ q * (w * w) + a * ((x + k) * w) - b * ((x + k) * (x + k))
g_rises q a b x k w steep within =
    let slope : b * k * (2 * x + k) ≤ b * k * (360 * w) = mul-le-mul_left (b * k) (omega arith) in
    let wide : (360 * b + 1) * (k * w) ≤ a * (k * w) = mul-le-mul_right (k * w) (omega arith) in
    let low : b * (x * x) ≤ a * (x * w) = square_le a b x w steep (omega arith) in
    let high : b * ((x + k) * (x + k)) ≤ a * ((x + k) * w) = square_le a b (x + k) w steep within in
    omega arith

bracket_scale : (q a b n d c y w : ℕ) → n * c ≡ y → c * d ≡ w → b * (n * n) ≤ a * (n * d)
    → (q * (d * d) + a * (n * d) - b * (n * n)) * (c * c) ≡ q * (w * w) + a * (y * w) - b * (y * y)
bracket_scale q a b n d c y w e f h =
    let back : (q * (d * d) + a * (n * d) - b * (n * n)) + b * (n * n) ≡ q * (d * d) + a * (n * d) = omega arith in
    let times : ((q * (d * d) + a * (n * d) - b * (n * n)) + b * (n * n)) * (c * c) ≡ (q * (d * d) + a * (n * d)) * (c * c) = ap (λ t. t * (c * c)) back in
    rw (← e, ← f) (omega arith)

bracket_rises : (a b m c n d k : ℕ) → 360 * b < a → m ≤ 180 * c → n ≤ 180 * d → m * d + k ≡ n * c
    → bracket a b m c * (d * d) + k * (c * d) ≤ bracket a b n d * (c * c)
bracket_rises a b m c n d k steep within' within apart =
    let wide : m * d + k ≤ 180 * (c * d) = omega (arith, mul-le-mul_right c within) in
    let low : b * (m * m) ≤ a * (m * c) = square_le a b m c steep within' in
    rw (bracket_scale (10 ^ 10) a b m c d (m * d) (c * d) refl (omega arith) low, bracket_scale (10 ^ 10) a b n d c (m * d + k) (c * d) (sym apart) refl (square_le a b n d steep within))
    (g_rises (10 ^ 10) a b (m * d) k (c * d) steep wide)

-- m / c is at most n / d, k times 1 / (c d) below it
ohms_rise : (r0 a b m c n d k : ℕ) → 360 * b < a → m ≤ 180 * c → n ≤ 180 * d → m * d + k ≡ n * c
    → r0 * bracket a b m c * (10 ^ 10 * (d * d)) + 10 ^ 10 * r0 * (k * (c * d)) ≤ r0 * bracket a b n d * (10 ^ 10 * (c * c))
ohms_rise r0 a b m c n d k steep within' within apart =
    times _ _ _ _ _ (mul-le-mul_left (10 ^ 10 * r0) (bracket_rises a b m c n d k steep within' within apart))
  where
    times : (x y z u v : ℕ) → 10 ^ 10 * r0 * (x * y + z) ≤ 10 ^ 10 * r0 * (u * v) → r0 * x * (10 ^ 10 * y) + 10 ^ 10 * r0 * z ≤ r0 * u * (10 ^ 10 * v)
    times x y z u v h = omega arith

square_pos : {d : ℕ} → 0 < d → 0 < 10 ^ 10 * (d * d)
square_pos above = mul-pos (lit< tt) (mul-pos above above)

-- R rises from m / c to n / d
pub ratio_rises : (e : Element) (m c n d : ℕ) (c_pos : 0 < c) (d_pos : 0 < d) → IsRising e → m ≤ 180 * c → n ≤ 180 * d → m * d ≤ n * c
    → resistance e (ratio m c c_pos) ≤ℚ resistance e (ratio n d d_pos)
ratio_rises e m c n d c_pos d_pos rising within' within h =
    let apart : m * d + (n * c - m * d) ≡ n * c = omega arith in
    let order : e.r0_uohm * bracket e.a_e10 e.b_e10 m c * (10 ^ 10 * (d * d)) ≤ e.r0_uohm * bracket e.a_e10 e.b_e10 n d * (10 ^ 10 * (c * c)) =
    less _ _ _ (ohms_rise e.r0_uohm e.a_e10 e.b_e10 m c n d (n * c - m * d) rising.steep within' within apart) in
    le_same (same_sym (resistance-ratio e m c c_pos (square_pos c_pos) rising within')) (same_sym (resistance-ratio e n d d_pos (square_pos d_pos) rising within))
    (ratio-le _ _ _ _ (square_pos c_pos) (square_pos d_pos) order)
  where
    less : (x y z : ℕ) → x + y ≤ z → x ≤ z
    less x y z h = omega arith

-- and where the resistances stand in that order, the temperatures do
pub ratio_reflects : (e : Element) (m c n d : ℕ) (c_pos : 0 < c) (d_pos : 0 < d) → IsRising e → m ≤ 180 * c → n ≤ 180 * d
    → resistance e (ratio n d d_pos) ≤ℚ resistance e (ratio m c c_pos) → n * c ≤ m * d
ratio_reflects e m c n d c_pos d_pos rising within' within h = past (cases_lt (m * d) (n * c))
  where
    ohms : e.r0_uohm * bracket e.a_e10 e.b_e10 n d * (10 ^ 10 * (c * c)) ≤ e.r0_uohm * bracket e.a_e10 e.b_e10 m c * (10 ^ 10 * (d * d))
    ohms = le-ratio _ _ _ _ (square_pos d_pos) (square_pos c_pos)
        (le_same (resistance-ratio e n d d_pos (square_pos d_pos) rising within) (resistance-ratio e m c c_pos (square_pos c_pos) rising within') h)

    clash : (x y z : ℕ) → x + y ≤ z → z ≤ x → 0 < y → ⊥
    clash x y z h k l = omega arith

    past : (m * d < n * c) ⊎ (n * c ≤ m * d) → n * c ≤ m * d
    past (inr low) = low
    past (inl high) =
        let apart : m * d + (n * c - m * d) ≡ n * c = omega arith in
        let some : 0 < n * c - m * d = omega arith in
        absurd (clash _ _ _ (ohms_rise e.r0_uohm e.a_e10 e.b_e10 m c n d (n * c - m * d) rising.steep within' within apart) ohms
        (mul-pos (mul-pos (lit< tt) rising.conducts) (mul-pos some (mul-pos c_pos d_pos))))
