-- The sizes of polynomials.
use Rattle.std.proofs.Common.{◌≡◌, ℕ, zero, suc, ◌+◌, ◌^◌, ◌≤◌, arith, refl, ℤ, ◌≤ℤ◌, length, List, [], ◌∷◌}
use Rattle.std.proofs.lemmas.Int.{ints}
use Rattle.std.specs.List.{sum_by}
use Rattle.std.proofs.lemmas.List.Sums.{sum_by-cons}
use Rattle.interval_num.specs.declared.enc.Enc.{Enc}
use Rattle.enclosure_sizes.specs.Size.{Size, SizedBy, horner_size}
use Rattle.enclosure_sizes.proofs.Sizes.{Sized-step, step_ordered}
use Rattle.dec_tables.specs.Polynomials.{SizedEach, horner_ends, magnitude}
use Rattle.dec_tables.proofs.Coefficients.{sized_magnitude}

pub horner_ordered : (s : ℕ) (zl zh : ℤ) (es : List (Enc s)) → (horner_ends s zl zh es).0 ≤ℤ (horner_ends s zl zh es).1
unfolding horner_ends
horner_ordered s zl zh [] = omega (arith, ints)
horner_ordered s zl zh (e ∷ es) = step_ordered s e.lo e.hi zl zh (horner_ends s zl zh es).0 (horner_ends s zl zh es).1 e.ordered

pub Sized-horner : (s d : ℕ) (z : Size) (zl zh : ℤ) → zl ≤ℤ zh → SizedBy z d zl zh → (n : ℕ) (es : List (Enc s)) (f : ℕ → Size) → length es ≡ n → SizedEach s es f
    → SizedBy (horner_size (2 ^ s) z f n) d (horner_ends s zl zh es).0 (horner_ends s zl zh es).1
unfolding horner_ends horner_size
Sized-horner s d z zl zh order y zero [] f e h = record { low = omega (arith, ints); high = omega (arith, ints); width = omega (arith, ints) }
Sized-horner s d z zl zh order y (suc n) [] f e h = absurd (omega (arith, e))
Sized-horner s d z zl zh order y zero (c ∷ cs) f e h = absurd (omega (arith, e))
Sized-horner s d z zl zh order y (suc n) (c ∷ cs) f e h =
    Sized-step s d (f 0) z (horner_size (2 ^ s) z (λ k. f (suc k)) n) c.lo c.hi zl zh (horner_ends s zl zh cs).0 (horner_ends s zl zh cs).1 order (horner_ordered s zl zh cs)
    (h 0 c refl d) y (Sized-horner s d z zl zh order y n cs (λ k. f (suc k)) (omega (arith, e)) (λ k g i. h (suc k) g i))

-- the sum of the greatest magnitudes
unfoldable pub most_sum : (ℕ → Size) → ℕ → ℕ
most_sum f zero = 0
most_sum f (suc n) = (f 0).most + most_sum (λ k. f (suc k)) n

pub total_most : (s n : ℕ) (es : List (Enc s)) (f : ℕ → Size) → length es ≡ n → SizedEach s es f → sum_by magnitude es ≤ most_sum f n
unfolding most_sum
total_most s zero [] f e h = omega arith
total_most s (suc n) [] f e h = absurd (omega (arith, e))
total_most s zero (c ∷ cs) f e h = absurd (omega (arith, e))
total_most s (suc n) (c ∷ cs) f e h =
    rw (sum_by-cons magnitude c cs)
    (both (sized_magnitude (f 0).most _ _ 0 c.lo c.hi c.ordered (h 0 c refl 0)) (total_most s n cs (λ k. f (suc k)) (omega (arith, e)) (λ k g i. h (suc k) g i)))
  where
    both : {a b c d : ℕ} → a ≤ b → c ≤ d → a + c ≤ b + d
    both h k = omega (arith, h, k)
