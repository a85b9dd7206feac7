-- The target stands between two steps, and a halving keeps it there and halves the width between them.
use Rattle.std.proofs.Common.{◌≡◌, ℕ, suc, ◌+◌, ◌-◌, ◌*◌, ◌/◌, ◌^◌, ◌<◌, ◌≤◌, arith, ap, ◌∙◌, ◌⊎◌, inl, inr, ℤ, pos, ◌≤ℤ◌, ◌<ℤ◌}
use Rattle.std.proofs.lemmas.Bool.{cases_lt}
use Rattle.std.proofs.lemmas.Int.{ints}
use native.Mathlib.Nat.{pow-suc}
use Rattle.platinum_model.specs.Element.{Element, scaled_resistance}

pub record Between (e : Element) (target : ℤ) (step steps width last past : ℕ) : Type 0 where
  pub order : last < past
  pub range : past ≤ steps
  pub near : past - last ≤ width
  pub reached : pos (2 * scaled_resistance e (step * last)) ≤ℤ target
  pub passed : target <ℤ pos (2 * scaled_resistance e (step * past))

-- what is left of the width after one halving more
pow_half : (n i : ℕ) → i < n → 2 ^ (n - i) ≡ 2 * 2 ^ (n - (i + 1))
pow_half n i h =
    let one : n - i ≡ suc (n - (i + 1)) = omega arith in
    ap (λ k. 2 ^ k) one ∙ (omega (arith, pow-suc 2 (n - (i + 1))))

upper_half : (e : Element) (target : ℤ) (step steps w last past middle : ℕ) → middle ≡ last + (past - last) / 2 → Between e target step steps (2 * w) last past
    → pos (2 * scaled_resistance e (step * middle)) ≤ℤ target → Between e target step steps w middle past
upper_half e target step steps w last past middle at h reached =
    let order : last < past = h.order in
    let near : past - last ≤ 2 * w = h.near in
    record { order = omega arith; range = h.range; near = omega arith; reached = reached; passed = h.passed }

lower_half : (e : Element) (target : ℤ) (step steps w last past middle : ℕ) → middle ≡ last + (past - last) / 2 → Between e target step steps (2 * w) last past
    → target <ℤ pos (2 * scaled_resistance e (step * middle)) → Between e target step steps w last middle
lower_half e target step steps w last past middle at h passed =
    let order : last < past = h.order in
    let near : past - last ≤ 2 * w = h.near in
    let range : past ≤ steps = h.range in
    record { order = above (cases_lt last middle); range = omega arith; near = omega arith; reached = h.reached; passed = passed }
  where
    clash : (m : ℕ) → pos m ≤ℤ target → target <ℤ pos m → ⊥
    clash m p q = omega (arith, ints, p, q)

    above : (last < middle) ⊎ (middle ≤ last) → last < middle
    above (inl high) = high
    above (inr low) =
        let same : middle ≡ last = omega arith in
        absurd (clash (2 * scaled_resistance e (step * last)) h.reached (rw same at passed))

pub Between-upper : (e : Element) (target : ℤ) (step steps n i last past : ℕ) → i < n → Between e target step steps (2 ^ (n - i)) last past
    → pos (2 * scaled_resistance e (step * (last + (past - last) / 2))) ≤ℤ target → Between e target step steps (2 ^ (n - (i + 1))) (last + (past - last) / 2) past
Between-upper e target step steps n i last past more h reached =
    upper_half e target step steps (2 ^ (n - (i + 1))) last past (last + (past - last) / 2) (omega arith) (rw (pow_half n i more) at h) reached

pub Between-lower : (e : Element) (target : ℤ) (step steps n i last past : ℕ) → i < n → Between e target step steps (2 ^ (n - i)) last past
    → target <ℤ pos (2 * scaled_resistance e (step * (last + (past - last) / 2))) → Between e target step steps (2 ^ (n - (i + 1))) last (last + (past - last) / 2)
Between-lower e target step steps n i last past more h passed =
    lower_half e target step steps (2 ^ (n - (i + 1))) last past (last + (past - last) / 2) (omega arith) (rw (pow_half n i more) at h) passed
