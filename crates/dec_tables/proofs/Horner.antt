-- Horner's scheme: what its ends hold.
use Rattle.std.proofs.Common.{◌≡◌, ℕ, zero, suc, ◌-◌, ◌^◌, ◌<◌, ◌≤◌, List, [], ◌∷◌, length, drop, get_or, drop-cons, refl, arith, ap, ◌∙◌, ℤ, ◌+ℤ◌}
use Rattle.std.proofs.lemmas.Int.{ints}
use Rattle.number_model.specs.Fraction.{Fraction, ◌+ℚ◌, ◌*ℚ◌, ◌≈◌, whole, power}
use Rattle.number_model.specs.Enclosure.{Holds}
use Rattle.number_model.specs.Rounding.{floor_div, ceil_div}
use Rattle.number_model.proofs.Same.{same_refl, same_sym, same_trans, same_add, same_mul_comm, same_mul_assoc, same_distrib, Holds-same}
use Rattle.number_model.proofs.Laws.{zero_add, add_zero, zero_mul, add_assoc}
use Rattle.number_model.proofs.Powers.{one_mul}
use Rattle.number_model.proofs.Enclosures.{Holds-add, Holds-mul}
use Rattle.interval_num.specs.declared.enc.Enc.{Enc}
use Rattle.interval_num.specs.Ends.{least_product, greatest_product}
use Rattle.interval_num.proofs.ProductLemmas.{Encloses4-products}
use Rattle.table_model.specs.Tables.{polynomial}
use Rattle.dec_tables.specs.Polynomials.{HoldsEach, horner_ends}

-- the list from one place earlier on
pub drop_earlier : {X : Type 0} (xs : List X) (k : ℕ) (d : X) → 0 < k → k ≤ length xs → drop (k - 1) xs ≡ get_or xs (k - 1) d ∷ drop k xs
drop_earlier xs k d above most =
    let next : suc (k - 1) ≡ k = omega arith in
    drop-cons xs (k - 1) d (omega arith) ∙ ap (λ j. get_or xs (k - 1) d ∷ drop j xs) next

pub horner_next : (s : ℕ) (zl zh : ℤ) (e h : Enc s) (es : List (Enc s)) (lo hi : ℤ) → h.lo ≡ (horner_ends s zl zh es).0 → h.hi ≡ (horner_ends s zl zh es).1
    → lo ≡ e.lo +ℤ floor_div (least_product zl zh h.lo h.hi) (2 ^ s) → hi ≡ e.hi +ℤ ceil_div (greatest_product zl zh h.lo h.hi) (2 ^ s)
    → (lo ≡ (horner_ends s zl zh (e ∷ es)).0) × (hi ≡ (horner_ends s zl zh (e ∷ es)).1)
unfolding horner_ends
horner_next s zl zh e h es lo hi p q l u = (rw (← p, ← q) l, rw (← p, ← q) u)

-- (a + z p) + c (w z) = a + z (p + c w)
factored : (a z p c w : Fraction) → ((a +ℚ z *ℚ p) +ℚ c *ℚ (w *ℚ z)) ≈ (a +ℚ z *ℚ (p +ℚ c *ℚ w))
factored a z p c w =
    same_trans (same_sym (add_assoc a (z *ℚ p) (c *ℚ (w *ℚ z))))
    (same_add (same_refl a)
    (same_trans (same_add (same_refl (z *ℚ p)) (same_trans (same_sym (same_mul_assoc c w z)) (same_mul_comm (c *ℚ w) z)))
    (same_sym (same_distrib z p (c *ℚ w)))))

pub polynomial_first : (c : ℕ → Fraction) (n : ℕ) (z : Fraction) → polynomial c (suc n) z ≈ (c 0 +ℚ z *ℚ polynomial (λ k. c (suc k)) n z)
unfolding polynomial power
polynomial_first c zero z =
    same_trans (same_trans (zero_add (c 0 *ℚ whole 1)) (one_mul (c 0)))
    (same_sym (same_trans (same_add (same_refl (c 0)) (same_trans (same_mul_comm z (whole 0)) (zero_mul z))) (add_zero (c 0))))
polynomial_first c (suc n) z =
    same_trans (same_add (polynomial_first c n z) (same_refl (c (suc n) *ℚ (power z n *ℚ z))))
    (factored (c 0) z (polynomial (λ k. c (suc k)) n z) (c (suc n)) (power z n))

pub horner_holds : (s : ℕ) (zl zh : ℤ) (es : List (Enc s)) (c : ℕ → Fraction) (y : Fraction) → HoldsEach s es c → Holds s zl zh y
    → Holds s (horner_ends s zl zh es).0 (horner_ends s zl zh es).1 (polynomial c (length es) y)
unfolding polynomial horner_ends
horner_holds s zl zh [] c y h hz = record { low = record { crossed = omega (arith, ints) }; high = record { crossed = omega (arith, ints) } }
horner_holds s zl zh (e ∷ es) c y h hz =
    let rest = horner_holds s zl zh es (λ k. c (suc k)) y (λ k d q. h (suc k) d q) hz in
    let hl = (horner_ends s zl zh es).0 in
    let hh = (horner_ends s zl zh es).1 in
    Holds-same (same_sym (polynomial_first c (length es) y))
    (Holds-add s e.lo e.hi _ _ (c 0) (y *ℚ polynomial (λ k. c (suc k)) (length es) y) (h 0 e refl)
    (Holds-mul s _ _ zl zh hl hh y (polynomial (λ k. c (suc k)) (length es) y) (Encloses4-products s zl zh hl hh) hz rest))
