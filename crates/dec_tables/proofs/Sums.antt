-- Sums over the terms: the shares of a coefficient add up to the sum over the published rows.
use Rattle.std.proofs.Common.{◌≡◌, ℕ, zero, suc, ◌+◌, ◌-◌, ◌*◌, ◌^◌, ◌<◌, ◌≤◌, arith, ap, map, true, false, Bool, List, [], ◌∷◌, ◌++◌, length, take, drop, get_or, take-append-drop, ℤ, pos, negsuc, ◌+ℤ◌, if◌then◌else◌}
use lib.IntN.{◌-ℤ◌}
use Rattle.std.proofs.lemmas.List.{take_more}
use Rattle.std.specs.Ordering.{int_eq}
use Rattle.number_model.specs.Fraction.{Fraction, ◌+ℚ◌, ◌*ℚ◌, ◌≈◌, power, whole}
use Rattle.number_model.proofs.Same.{same_refl, same_sym, same_trans, same_add, same_mul, same_mul_comm, same_mul_assoc}
use Rattle.number_model.proofs.Laws.{zero_add, add_zero, add_assoc}
use Rattle.number_model.proofs.Powers.{one_mul}
use Rattle.water_model.specs.Decimal.{integer}
use Rattle.water_model.specs.Region1.{Row, region1}
use Rattle.water_model.specs.Water.{coefficient, sum_over}
use Rattle.water_model.proofs.Decimals.{neg_times, times_integer}
use Rattle.table_model.specs.Tables.{pi_factor, tau_factor}
use Rattle.dec_tables.specs.declared.part.Part.{Part}
use Rattle.dec_tables.specs.declared.part.Part.TheVariants.{VolumeUp, VolumeDown, HeatUp, HeatDown}
use Rattle.dec_tables.specs.declared.table.Term.{Term}
use Rattle.dec_tables.specs.Coefficients.{coefficient_of, term_of}
use Rattle.dec_tables.specs.Parts.{part_coefficient, pressure_factor, temperature_factor, share_of}
use Rattle.dec_tables.specs.Sizes.{total, total_size}
use Rattle.enclosure_sizes.specs.Size.{Size, SizedBy}
use Rattle.enclosure_sizes.proofs.Sizes.{Sized-add}
use Rattle.std.proofs.lemmas.Int.{ints}
use Rattle.dec_tables.proofs.Shares.{pow-mul}

-- ---- totals
total-append : (f : Term → ℕ) (xs ys : List Term) → total f (xs ++ ys) ≡ total f xs + total f ys
unfolding total
total-append f [] ys = omega arith
total-append f (x ∷ xs) ys = omega (arith, total-append f xs ys)

total_more : (f : Term → ℕ) (xs : List Term) (i : ℕ) (d : Term) → i < length xs → total f (take (i + 1) xs) ≡ total f (take i xs) + f (get_or xs i d)
unfolding total
total_more f xs i d h = rw (take_more xs i d h) (omega (arith, total-append f (take i xs) (get_or xs i d ∷ [])))

total_take_le : (f : Term → ℕ) (xs : List Term) (i : ℕ) → total f (take i xs) ≤ total f xs
total_take_le f xs i = omega (arith, total-append f (take i xs) (drop i xs), ap (total f) (take-append-drop i xs))

pub size_none : (f : Term → Size) (w : ℕ) (lo hi : ℤ) → lo ≡ pos 0 → hi ≡ pos 0 → SizedBy (total_size f []) w lo hi
unfolding total total_size
size_none f w lo hi e g = rw (e, g) (record { low = omega (arith, ints); high = omega (arith, ints); width = omega (arith, ints) })

pub size_more : (f : Term → Size) (w : ℕ) (ts : List Term) (i : ℕ) (d : Term) (l h l' h' : ℤ) → i < length ts → SizedBy (total_size f (take i ts)) w l h → SizedBy (f (get_or ts i d)) w l' h'
    → SizedBy (total_size f (take (i + 1) ts)) w (l +ℤ l') (h +ℤ h')
unfolding total_size
size_more f w ts i d l h l' h' few y z =
    rw (total_more (λ t. (f t).most) ts i d few, total_more (λ t. (f t).base) ts i d few, total_more (λ t. (f t).per) ts i d few)
    (Sized-add _ _ _ _ _ _ w l h l' h' y z)

pub size_most : (f : Term → Size) (ts : List Term) (i : ℕ) → (total_size f (take i ts)).most ≤ (total_size f ts).most
unfolding total_size
size_most f ts i = total_take_le (λ t. (f t).most) ts i

-- ---- sums of fractions
sum_over-append : (f : Term → Fraction) (xs : List Term) (x : Term) → sum_over f (xs ++ x ∷ []) ≈ (sum_over f xs +ℚ f x)
unfolding sum_over
sum_over-append f [] x = same_trans (add_zero (f x)) (same_sym (zero_add (f x)))
sum_over-append f (y ∷ ys) x = same_trans (same_add (same_refl (f y)) (sum_over-append f ys x)) (add_assoc (f y) (sum_over f ys) (f x))

pub sum_over_more : (f : Term → Fraction) (xs : List Term) (i : ℕ) (d : Term) → i < length xs → (sum_over f (take i xs) +ℚ f (get_or xs i d)) ≈ sum_over f (take (i + 1) xs)
sum_over_more f xs i d h = rw (take_more xs i d h) (same_sym (sum_over-append f (take i xs) (get_or xs i d)))

pub sum_map : (f : Term → Fraction) (g : Row → Fraction) → ((r : Row) → f (term_of r) ≈ g r) → (rs : List Row) → sum_over f (map term_of rs) ≈ sum_over g rs
unfolding sum_over
sum_map f g h [] = same_refl (whole 0)
sum_map f g h (r ∷ rs) = same_add (h r) (sum_map f g h rs)

pub sum_none : {A : Type 0} (f : A → Fraction) → ((e : A) → f e ≈ whole 0) → (es : List A) → sum_over f es ≈ whole 0
unfolding sum_over
sum_none f h [] = same_refl (whole 0)
sum_none f h (e ∷ es) = same_trans (same_add (h e) (sum_none f h es)) (zero_add (whole 0))

pick : (b : Bool) (x y : Fraction) → x ≈ y → (if b then x else whole 0) ≈ (if b then y else whole 0)
pick true x y h = h
pick false x y h = same_refl (whole 0)

-- ---- a row as a term
pressure_row : (v : Fraction) (r : Row) → (coefficient_of (pressure_factor (term_of r)) *ℚ power v (r.i - 1)) ≈ pi_factor v r
pressure_row v r = same_mul (same_sym (neg_times r.mantissa r.exp10 r.i)) (same_refl (power v (r.i - 1)))

swap : (c j p : Fraction) → ((c *ℚ j) *ℚ p) ≈ ((c *ℚ p) *ℚ j)
swap c j p = same_trans (same_mul_assoc c j p) (same_trans (same_mul (same_refl c) (same_mul_comm j p)) (same_sym (same_mul_assoc c p j)))

pub temperature_row : (v : Fraction) (r : Row) → (coefficient_of (temperature_factor (term_of r)) *ℚ power v r.i) ≈ tau_factor v r
temperature_row v r =
    same_trans (same_mul (same_sym (times_integer r.mantissa r.exp10 r.j)) (same_refl (power v r.i))) (swap (coefficient r) (integer r.j) (power v r.i))

four : (x y : Fraction) (k : ℕ) → x ≈ y → (x *ℚ whole (2 ^ (2 * k))) ≈ (y *ℚ whole (4 ^ k))
four x y k h = rw (pow-mul 2 2 k) (same_mul h (same_refl (whole (4 ^ k))))

one : (x y : Fraction) → x ≈ y → (x *ℚ whole (2 ^ 0)) ≈ y
one x y h = same_trans (one_mul x) h

pub part_sum : (q : Part) (v : Fraction) (k : ℕ) → sum_over (share_of q v k) (map term_of region1) ≈ part_coefficient q v k
part_sum VolumeUp v k = sum_map (share_of VolumeUp v k) _ (λ r. pick (int_eq r.j (pos k)) _ _ (four _ _ k (pressure_row v r))) region1
part_sum VolumeDown v zero = sum_none (share_of VolumeDown v 0) (λ t. same_refl (whole 0)) (map term_of region1)
part_sum VolumeDown v (suc n) = sum_map (share_of VolumeDown v (suc n)) _ (λ r. pick (int_eq r.j (negsuc n)) _ _ (one _ _ (pressure_row v r))) region1
part_sum HeatUp v k = sum_map (share_of HeatUp v k) _ (λ r. pick (int_eq (r.j -ℤ pos 1) (pos k)) _ _ (four _ _ k (temperature_row v r))) region1
part_sum HeatDown v zero = sum_none (share_of HeatDown v 0) (λ t. same_refl (whole 0)) (map term_of region1)
part_sum HeatDown v (suc n) = sum_map (share_of HeatDown v (suc n)) _ (λ r. pick (int_eq (r.j -ℤ pos 1) (negsuc n)) _ _ (one _ _ (temperature_row v r))) region1
