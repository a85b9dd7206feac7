-- What a test says at both ends, it says between them.
use Rattle.std.proofs.Common.{◌≡◌, ℕ, ◌+◌, ◌*◌, ◌<◌, refl, sym, ap, ◌∙◌, arith, ℤ, pos, neg_ℤ, ◌+ℤ◌, ◌-ℤ◌, ◌*ℤ◌, ◌≤ℤ◌, Bool, true, false, int_lt}
use Rattle.std.proofs.lemmas.Int.{ints, by_lt_z}
use lib.Signed.{◌<ℤ◌}
use Rattle.number_model.specs.Fraction.{Fraction, ◌-ℚ◌, ◌*ℚ◌, whole}
use Rattle.number_model.proofs.Ints.{as_diff, same_diff, ring, mul-le_pos, recast, between_low, between_high}
use Rattle.water_model.specs.Decimal.{integer}
use Rattle.heat_model.specs.Heat.{LiesBetween}
use Rattle.bench_model.specs.Verdicts.{verdict_of, below_ℚ, calculator_verdict, pair_verdict}

-- ---- tests on whole numbers
holds : (a b : ℤ) → a <ℤ b → int_lt a b ≡ true
holds a b h = grind (arith, ints)

fails : (a b : ℤ) → b ≤ℤ a → int_lt a b ≡ false
fails a b h = grind (arith, ints)

holding : (a b : ℤ) → int_lt a b ≡ true → a <ℤ b
holding a b h = grind (arith, ints)

failing : (a b : ℤ) → int_lt a b ≡ false → b ≤ℤ a
failing a b h = grind (arith, ints)

-- pairs with the same difference
pub same_test : (a b c d : ℤ) → b -ℤ a ≡ d -ℤ c → int_lt a b ≡ int_lt c d
same_test a b c d e = by_lt_z a b
    (λ lt. holds a b lt ∙ sym (holds c d (omega (arith, ints, e, lt))))
    (λ ge. fails a b ge ∙ sym (fails c d (omega (arith, ints, e, ge))))

-- ---- between the ends
swap : (z c : ℤ) (d : ℕ) → (z *ℤ pos d) *ℤ c ≡ (z *ℤ c) *ℤ pos d
swap z c d = rw (as_diff z, as_diff c) (simp ring (same_diff _ _ _ _ (omega arith)))

more : (a : ℤ) (d : ℕ) → (a +ℤ pos 1) *ℤ pos d ≡ a *ℤ pos d +ℤ pos d
more a d = rw (as_diff a) (simp ring (same_diff _ _ _ _ (omega arith)))

above_within : (a c lo hi n : ℤ) (d : ℕ) → 0 < d → (lo *ℤ pos d) ≤ℤ n → n ≤ℤ (hi *ℤ pos d)
    → a <ℤ (lo *ℤ c) → a <ℤ (hi *ℤ c) → (a *ℤ pos d) <ℤ (n *ℤ c)
above_within a c lo hi n d positive from to at_lo at_hi =
    let above : ((a +ℤ pos 1) *ℤ pos d) ≤ℤ (n *ℤ c) = between_low _ c (lo *ℤ pos d) (hi *ℤ pos d) n
    (recast (mul-le_pos {a = a +ℤ pos 1} {b = lo *ℤ c} d (omega (arith, ints, at_lo))) refl (swap lo c d))
    (recast (mul-le_pos {a = a +ℤ pos 1} {b = hi *ℤ c} d (omega (arith, ints, at_hi))) refl (swap hi c d))
    from to in
    omega (arith, ints, above, more a d)

not_above_within : (a c lo hi n : ℤ) (d : ℕ) → (lo *ℤ pos d) ≤ℤ n → n ≤ℤ (hi *ℤ pos d)
    → (lo *ℤ c) ≤ℤ a → (hi *ℤ c) ≤ℤ a → (n *ℤ c) ≤ℤ (a *ℤ pos d)
not_above_within a c lo hi n d from to at_lo at_hi = between_high _ c (lo *ℤ pos d) (hi *ℤ pos d) n
    (recast (mul-le_pos d at_lo) (swap lo c d) refl)
    (recast (mul-le_pos d at_hi) (swap hi c d) refl)
    from to

-- whether c x is above a
exceeds : ℤ → ℤ → Fraction → Bool
exceeds a c x = int_lt (a *ℤ pos x.den) (x.num *ℤ c)

exceeds_integer : (a c z : ℤ) → exceeds a c (integer z) ≡ int_lt a (z *ℤ c)
unfolding exceeds
exceeds_integer a c z = same_test (a *ℤ pos 1) (z *ℤ c) a (z *ℤ c) (omega (arith, ints))

-- x = n / d
steady_by : (a c lo hi n : ℤ) (d : ℕ) → 0 < d → (lo *ℤ pos d) ≤ℤ n → n ≤ℤ (hi *ℤ pos d)
    → int_lt a (lo *ℤ c) ≡ int_lt a (hi *ℤ c) → int_lt (a *ℤ pos d) (n *ℤ c) ≡ int_lt a (lo *ℤ c)
steady_by a c lo hi n d positive from to same = by_lt_z a (lo *ℤ c)
    (λ lt. let at : int_lt a (lo *ℤ c) ≡ true = holds a (lo *ℤ c) lt in
    holds _ _ (above_within a c lo hi n d positive from to lt (holding a (hi *ℤ c) (sym same ∙ at))) ∙ sym at)
    (λ ge. let at : int_lt a (lo *ℤ c) ≡ false = fails a (lo *ℤ c) ge in
    fails _ _ (not_above_within a c lo hi n d from to ge (failing a (hi *ℤ c) (sym same ∙ at))) ∙ sym at)

exceeds-steady : (a c lo hi : ℤ) (x : Fraction) → LiesBetween lo hi x
    → exceeds a c (integer lo) ≡ exceeds a c (integer hi) → exceeds a c x ≡ exceeds a c (integer lo)
unfolding exceeds
exceeds-steady a c lo hi x within same =
    steady_by a c lo hi x.num x.den x.positive (omega (arith, ints, within.low.crossed)) (omega (arith, ints, within.high.crossed))
    (sym (exceeds_integer a c lo) ∙ same ∙ exceeds_integer a c hi) ∙ sym (exceeds_integer a c lo)

-- ---- verdicts
-- between two verdicts that are the same, where each test says what it does at both ends if it does so there
verdict_of-steady : (h l h' l' t u : Bool) → verdict_of h l ≡ verdict_of h' l' → (h ≡ h' → t ≡ h) → (l ≡ l' → u ≡ l) → verdict_of t u ≡ verdict_of h l
verdict_of-steady true l true l' t u same high low = ap (λ b. verdict_of b u) (high refl)
verdict_of-steady true l false true t u same high low = cc
verdict_of-steady true l false false t u same high low = cc
verdict_of-steady false true true l' t u same high low = cc
verdict_of-steady false false true l' t u same high low = cc
verdict_of-steady false true false true t u same high low = rw (high refl, low refl) refl
verdict_of-steady false true false false t u same high low = cc
verdict_of-steady false false false true t u same high low = cc
verdict_of-steady false false false false t u same high low = rw (high refl, low refl) refl

-- the calculator's two tests
calculator_high : (a b : ℕ) (x : Fraction) → below_ℚ (whole b *ℚ x) (whole a) ≡ exceeds (neg_ℤ (pos a)) (neg_ℤ (pos b)) x
unfolding exceeds
calculator_high a b x = same_test ((pos b *ℤ x.num) *ℤ pos 1) (pos a *ℤ pos (1 * x.den)) (neg_ℤ (pos a) *ℤ pos x.den) (x.num *ℤ neg_ℤ (pos b)) (law a b x.num x.den)
  where
    law : (a b : ℕ) (n : ℤ) (d : ℕ) → pos a *ℤ pos (1 * d) -ℤ (pos b *ℤ n) *ℤ pos 1 ≡ n *ℤ neg_ℤ (pos b) -ℤ neg_ℤ (pos a) *ℤ pos d
    law a b n d = rw (as_diff n) (simp ring (same_diff _ _ _ _ (omega arith)))

calculator_low : (a : ℕ) (k : ℤ) (x : Fraction) → below_ℚ (whole a) (integer k *ℚ x) ≡ exceeds (pos a) k x
unfolding exceeds
calculator_low a k x = same_test (pos a *ℤ pos (1 * x.den)) ((k *ℤ x.num) *ℤ pos 1) (pos a *ℤ pos x.den) (x.num *ℤ k) (law a k x.num x.den)
  where
    law : (a : ℕ) (k n : ℤ) (d : ℕ) → (k *ℤ n) *ℤ pos 1 -ℤ pos a *ℤ pos (1 * d) ≡ n *ℤ k -ℤ pos a *ℤ pos d
    law a k n d = rw (as_diff n, as_diff k) (simp ring (same_diff _ _ _ _ (omega arith)))

pub calculator_verdict-steady : (m D L E : ℕ) (lo hi : ℤ) (x : Fraction) → LiesBetween lo hi x
    → calculator_verdict m D L E (integer lo) ≡ calculator_verdict m D L E (integer hi)
    → calculator_verdict m D L E x ≡ calculator_verdict m D L E (integer lo)
unfolding calculator_verdict
calculator_verdict-steady m D L E lo hi x within same =
    let high = calculator_high (200 * D * E) ((201 * D + 2 * m) * L) in
    let low = calculator_low (200 * D * E) ((pos (199 * D) -ℤ pos (2 * m)) *ℤ pos L) in
    verdict_of-steady _ _ _ _ _ _ same
    (λ h. high x ∙ exceeds-steady _ _ lo hi x within (sym (high (integer lo)) ∙ h ∙ high (integer hi)) ∙ sym (high (integer lo)))
    (λ h. low x ∙ exceeds-steady _ _ lo hi x within (sym (low (integer lo)) ∙ h ∙ low (integer hi)) ∙ sym (low (integer lo)))

-- the pair's two tests
pair_high : (k D : ℕ) (x : Fraction) → below_ℚ (whole k) (whole 200 *ℚ (x -ℚ whole D)) ≡ exceeds (pos (k + 200 * D)) (pos 200) x
unfolding exceeds
pair_high k D x = same_test (pos k *ℤ pos (1 * (x.den * 1))) ((pos 200 *ℤ (x.num *ℤ pos 1 +ℤ neg_ℤ (pos D) *ℤ pos x.den)) *ℤ pos 1) (pos (k + 200 * D) *ℤ pos x.den) (x.num *ℤ pos 200)
    (law k D x.num x.den)
  where
    law : (k D : ℕ) (n : ℤ) (d : ℕ) → (pos 200 *ℤ (n *ℤ pos 1 +ℤ neg_ℤ (pos D) *ℤ pos d)) *ℤ pos 1 -ℤ pos k *ℤ pos (1 * (d * 1)) ≡ n *ℤ pos 200 -ℤ pos (k + 200 * D) *ℤ pos d
    law k D n d = rw (as_diff n) (simp ring (same_diff _ _ _ _ (omega arith)))

pair_low : (k D : ℕ) (x : Fraction) → below_ℚ (whole k) (whole 200 *ℚ (whole D -ℚ x)) ≡ exceeds (pos k -ℤ pos (200 * D)) (neg_ℤ (pos 200)) x
unfolding exceeds
pair_low k D x = same_test (pos k *ℤ pos (1 * (1 * x.den))) ((pos 200 *ℤ (pos D *ℤ pos x.den +ℤ neg_ℤ x.num *ℤ pos 1)) *ℤ pos 1) ((pos k -ℤ pos (200 * D)) *ℤ pos x.den) (x.num *ℤ neg_ℤ (pos 200))
    (law k D x.num x.den)
  where
    law : (k D : ℕ) (n : ℤ) (d : ℕ) → (pos 200 *ℤ (pos D *ℤ pos d +ℤ neg_ℤ n *ℤ pos 1)) *ℤ pos 1 -ℤ pos k *ℤ pos (1 * (1 * d)) ≡ n *ℤ neg_ℤ (pos 200) -ℤ (pos k -ℤ pos (200 * D)) *ℤ pos d
    law k D n d = rw (as_diff n) (simp ring (same_diff _ _ _ _ (omega arith)))

pub pair_verdict-steady : (m D : ℕ) (lo hi : ℤ) (x : Fraction) → LiesBetween lo hi x
    → pair_verdict m D (integer lo) ≡ pair_verdict m D (integer hi)
    → pair_verdict m D x ≡ pair_verdict m D (integer lo)
unfolding pair_verdict
pair_verdict-steady m D lo hi x within same =
    let high = pair_high (D + 6 * m) D in
    let low = pair_low (D + 6 * m) D in
    verdict_of-steady _ _ _ _ _ _ same
    (λ h. high x ∙ exceeds-steady _ _ lo hi x within (sym (high (integer lo)) ∙ h ∙ high (integer hi)) ∙ sym (high (integer lo)))
    (λ h. low x ∙ exceeds-steady _ _ lo hi x within (sym (low (integer lo)) ∙ h ∙ low (integer hi)) ∙ sym (low (integer lo)))
