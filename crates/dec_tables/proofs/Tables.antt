-- The conditions and sizes of all coefficients, computed.
use Rattle.std.proofs.Common.{◌≡◌, refl, ℕ, zero, suc, ◌+◌, ◌*◌, ◌^◌, ◌<◌, ◌≤◌, lit≤, arith, map, true, Bool, List, [], ◌∷◌, nat_le, length, get_or, inl, inr, subst}
use Rattle.std.proofs.lemmas.Bool.{and_parts, leb-true, cases_lt}
use Rattle.std.specs.Prelude.{IsTrue, ◌&&◌}
use Rattle.water_model.specs.Region1.{region1}
use Rattle.enclosure_sizes.specs.Size.{parts, slope}
use Rattle.dec_tables.specs.declared.part.Part.{Part}
use Rattle.dec_tables.specs.declared.part.Part.TheVariants.{VolumeUp, VolumeDown, HeatUp, HeatDown}
use Rattle.dec_tables.specs.declared.table.Term.{Term}
use Rattle.dec_tables.specs.Coefficients.{term_of}
use Rattle.dec_tables.specs.Parts.{count_of, width_of}
use Rattle.dec_tables.specs.Sizes.{scaled_fits, factor_fits, share_fits, share_size, total, total_size, coefficient_size}

all_below : ℕ → (ℕ → Bool) → Bool
all_below zero p = true
all_below (suc n) p = all_below n p && p n

unfoldable pub every : (Term → Bool) → List Term → Bool
every p [] = true
every p (t ∷ ts) = p t && every p ts

terms_fit : (part : Part) → IsTrue (all_below (count_of part) (λ k. every (share_fits part k) (map term_of region1)))
unfolding all_below every region1 scaled_fits factor_fits share_fits slope
terms_fit VolumeUp = refl
terms_fit VolumeDown = refl
terms_fit HeatUp = refl
terms_fit HeatDown = refl

narrow : (part : Part) → IsTrue (all_below (count_of part) (λ k. nat_le (total_size (share_size part k) (map term_of region1)).base (width_of part k * parts)))
unfolding all_below region1 total total_size slope
narrow VolumeUp = refl
narrow VolumeDown = refl
narrow HeatUp = refl
narrow HeatDown = refl

unfoldable pub sum_below : ℕ → (ℕ → ℕ) → ℕ
sum_below zero f = 0
sum_below (suc n) f = sum_below n f + f n

pub all_small : (part : Part) → sum_below (count_of part) (λ k. (coefficient_size part k).most) ≤ 2 ^ 59
unfolding sum_below region1 total total_size slope
all_small VolumeUp = lit≤ tt
all_small VolumeDown = lit≤ tt
all_small HeatUp = lit≤ tt
all_small HeatDown = lit≤ tt

-- ---- one of them
below_all : (n : ℕ) (p : ℕ → Bool) (k : ℕ) → IsTrue (all_below n p) → k < n → IsTrue (p k)
unfolding all_below
below_all zero p k h few = absurd (omega (arith, few))
below_all (suc n) p k h few =
    let both = and_parts (all_below n p) (p n) h in
    elim (cases_lt k n) [
      | inl less ↦ below_all n p k both.0 less
      | inr most ↦ (let e : n ≡ k = omega (arith, few, most) in subst (λ j. IsTrue (p j)) e both.1)
    ]

pub every_one : (p : Term → Bool) (ts : List Term) (i : ℕ) (d : Term) → IsTrue (every p ts) → i < length ts → IsTrue (p (get_or ts i d))
unfolding every
every_one p [] i d h few = absurd (omega (arith, few))
every_one p (t ∷ ts) zero d h few = (and_parts (p t) (every p ts) h).0
every_one p (t ∷ ts) (suc i) d h few = every_one p ts i d (and_parts (p t) (every p ts) h).1 (omega (arith, few))

one_below : (n : ℕ) (f : ℕ → ℕ) (k : ℕ) → k < n → f k ≤ sum_below n f
unfolding sum_below
one_below zero f k few = absurd (omega (arith, few))
one_below (suc n) f k few =
    elim (cases_lt k n) [
      | inl less ↦ (let h : f k ≤ sum_below n f = one_below n f k less in omega (arith, h))
      | inr most ↦ (let e : n ≡ k = omega (arith, few, most) in subst (λ j. f j ≤ sum_below n f + f n) e (omega arith))
    ]

pub count_few : (q : Part) → count_of q ≤ 43
count_few VolumeUp = lit≤ tt
count_few VolumeDown = lit≤ tt
count_few HeatUp = lit≤ tt
count_few HeatDown = lit≤ tt

pub term_fits : (q : Part) (k i : ℕ) (d : Term) → k < count_of q → i < length (map term_of region1) → IsTrue (share_fits q k (get_or (map term_of region1) i d))
term_fits q k i d few less = every_one (share_fits q k) (map term_of region1) i d (below_all (count_of q) (λ k. every (share_fits q k) (map term_of region1)) k (terms_fit q) few) less

pub narrow_at : (q : Part) (k : ℕ) → k < count_of q → (total_size (share_size q k) (map term_of region1)).base ≤ width_of q k * parts
narrow_at q k few = leb-true _ _ (below_all (count_of q) (λ k. nat_le (total_size (share_size q k) (map term_of region1)).base (width_of q k * parts)) k (narrow q) few)

pub small_at : (q : Part) (k : ℕ) → k < count_of q → (total_size (share_size q k) (map term_of region1)).most ≤ 2 ^ 59
small_at q k few = omega (arith, one_below (count_of q) (λ k. (coefficient_size q k).most) k few, all_small q)
