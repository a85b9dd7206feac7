-- All coefficients of a part: the enclosure of x / 8, and the list that is filled.
use Rattle.std.proofs.Common.{◌≡◌, ℕ, zero, suc, ◌+◌, ◌^◌, ◌<◌, ◌≤◌, refl, arith, ap, sym, ◌∙◌, subst, map, max, List, [], ◌∷◌, length, set, get_or, inl, inr, ℤ, pos, ◌+ℤ◌, ◌*ℤ◌, ◌≤ℤ◌, unsigned_abs}
use lib.IntN.{◌-ℤ◌}
use Rattle.std.specs.Prelude.{slice_get, Some}
use Rattle.std.specs.List.{sum_by}
use Rattle.std.proofs.lemmas.Int.{ints}
use Rattle.std.proofs.lemmas.Bool.{cases_lt}
use Rattle.std.proofs.lemmas.List.{get_or-set_same, get_or-set_other, length-set}
use Rattle.std.proofs.lemmas.List.Sums.{sum_by-cons}
use Rattle.std.proofs.lemmas.Option.{slice_get_within, get_or_from_slice_get, slice_get-get_or}
use Rattle.number_model.specs.Enclosure.{Holds}
use Rattle.number_model.proofs.Ints.{le_of_mul-le_pos}
use Rattle.water_model.specs.Region1.{region1}
use Rattle.water_model.specs.Water.{x_of}
use Rattle.table_model.specs.Tables.{eighth_of}
use Rattle.interval_num.specs.declared.enc.Enc.{Enc}
use Rattle.enclosure_sizes.specs.Size.{Sized, SizedBy, parts}
use Rattle.dec_tables.specs.declared.part.Part.{Part}
use Rattle.dec_tables.specs.Coefficients.{term_of}
use Rattle.dec_tables.specs.Parts.{count_of, width_of}
use Rattle.dec_tables.specs.Sizes.{x_size, share_size, total_size, coefficient_size}
use Rattle.dec_tables.specs.Polynomials.{magnitude}
use Rattle.dec_tables.proofs.Tables.{sum_below, narrow_at, all_small}

-- ---- x / 8 at a pressure in the range
pub x_bounds : (p : ℕ) (lo hi : ℤ) → 1100 ≤ p → p ≤ 4000 → lo ≤ℤ hi → hi ≤ℤ (lo +ℤ pos 4) → Holds 56 lo hi (eighth_of (x_of p)) → (pos 0 ≤ℤ lo) × SizedBy x_size 0 lo hi
x_bounds p lo hi least most order wide h =
    let low = h.low.crossed in
    let high = h.high.crossed in (
      omega (arith, ints, low, high),
      record { low = omega (arith, ints, low, high); high = omega (arith, ints, low, high); width = omega (arith, ints, wide) },
    )

-- ---- one more coefficient
pub entry_set : {X : Type 0} (P : ℕ → X → Type 0) (xs : List X) (k : ℕ) (y : X) → k < length xs → P k y → ((i : ℕ) (e : X) → i < k → slice_get xs i ≡ Some e → P i e)
    → (i : ℕ) (e : X) → i < k + 1 → slice_get (set xs k y) i ≡ Some e → P i e
entry_set P xs k y within h old i e few there =
    let value = get_or_from_slice_get (set xs k y) i e e there in
    let inside = slice_get_within (set xs k y) i e there in
    let size = length-set xs k y in
    elim (cases_lt i k) [
      | inl less ↦ (
          let other : get_or (set xs k y) i e ≡ get_or xs i e = get_or-set_other xs k i y e (λ same. absurd (omega (arith, less, same))) in
          let is : get_or xs i e ≡ e = sym other ∙ value in
          old i e less (slice_get-get_or xs i e (omega (arith, inside, size)) ∙ ap Some is)
          )
      | inr much ↦ (
          let same : k ≡ i = omega (arith, few, much) in
          let is : y ≡ e = sym (get_or-set_same xs k y e within) ∙ ap (λ j. get_or (set xs k y) j e) same ∙ value in
          subst (λ j. P j e) same (subst (λ x. P k x) is h)
          )
    ]

-- ---- widths and magnitudes
pub narrow_width : (q : Part) (k : ℕ) (lo hi : ℤ) → k < count_of q → SizedBy (total_size (share_size q k) (map term_of region1)) 0 lo hi → hi ≤ℤ (lo +ℤ pos (width_of q k))
narrow_width q k lo hi few z =
    let narrow = narrow_at q k few in
    let gap : ((hi -ℤ lo) *ℤ pos parts) ≤ℤ (pos (width_of q k) *ℤ pos parts) = omega (arith, ints, z.width, narrow) in
    let short : (hi -ℤ lo) ≤ℤ pos (width_of q k) = le_of_mul-le_pos parts (omega arith) gap in
    omega (arith, ints, short)

pub stated_size : (q : Part) (k d : ℕ) (lo hi : ℤ) → k < count_of q → SizedBy (total_size (share_size q k) (map term_of region1)) 0 lo hi → SizedBy (coefficient_size q k) d lo hi
stated_size q k d lo hi few z =
    let narrow = narrow_at q k few in
    record { low = z.low; high = z.high; width = omega (arith, ints, z.width, narrow) }

pub sized_magnitude : (m a b d : ℕ) (lo hi : ℤ) → lo ≤ℤ hi → Sized m a b d lo hi → max (unsigned_abs lo) (unsigned_abs hi) ≤ m
sized_magnitude m a b d lo hi order z =
    let low : unsigned_abs lo ≤ m = omega (arith, ints, order, z.low, z.high) in
    let high : unsigned_abs hi ≤ m = omega (arith, ints, order, z.low, z.high) in
    omega (arith, low, high)

sum_below_first : (n : ℕ) (f : ℕ → ℕ) → sum_below (suc n) f ≡ f 0 + sum_below n (λ k. f (suc k))
unfolding sum_below
sum_below_first zero f = omega arith
sum_below_first (suc n) f = omega (arith, sum_below_first n f)

sum_magnitudes : (s : ℕ) (es : List (Enc s)) (f : ℕ → ℕ) → ((k : ℕ) (e : Enc s) → slice_get es k ≡ Some e → magnitude e ≤ f k) → sum_by magnitude es ≤ sum_below (length es) f
unfolding sum_below
sum_magnitudes s [] f h = omega arith
sum_magnitudes s (e ∷ es) f h =
    let first : magnitude e ≤ f 0 = h 0 e refl in
    let rest : sum_by magnitude es ≤ sum_below (length es) (λ k. f (suc k)) = sum_magnitudes s es (λ k. f (suc k)) (λ k d q. h (suc k) d q) in
    omega (arith, sum_by-cons magnitude e es, first, rest, sum_below_first (length es) f)

pub total_small : (q : Part) (s : ℕ) (es : List (Enc s)) → length es ≡ count_of q → ((k : ℕ) (e : Enc s) → slice_get es k ≡ Some e → SizedBy (total_size (share_size q k) (map term_of region1)) 0 e.lo e.hi) → sum_by magnitude es ≤ 2 ^ 59
total_small q s es size h =
    let all = sum_magnitudes s es (λ k. (coefficient_size q k).most) (λ k e there. sized_magnitude _ _ _ 0 e.lo e.hi e.ordered (h k e there)) in
    omega (arith, rw size at all, all_small q)
