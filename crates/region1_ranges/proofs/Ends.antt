-- Fractions between ends at the scale 2^56, through sums, products and powers. The ends are computed.
use Rattle.std.proofs.Common.{◌≡◌, ℕ, zero, suc, ◌+◌, ◌-◌, ◌*◌, ◌^◌, ◌<◌, arith, refl, lit<, ℤ, pos, negsuc, ◌+ℤ◌, ◌*ℤ◌, ◌≤ℤ◌, List, [], ◌∷◌, true}
use lib.Signed.{le_z}
use Rattle.std.proofs.lemmas.Int.{ints}
use Rattle.std.proofs.lemmas.Nat.{pow_pos}
use Rattle.number_model.specs.Fraction.{Fraction, ◌+ℚ◌, ◌*ℚ◌, power, whole, part, inverse, times_ℚ}
use Rattle.number_model.specs.Enclosure.{Holds}
use Rattle.number_model.specs.Rounding.{floor_div, ceil_div}
use Rattle.number_model.proofs.Ints.{≤ℤ_trans, mul-le_pos}
use Rattle.number_model.proofs.Order.{IsRatio-written}
use Rattle.number_model.proofs.Same.{Holds-same}
use Rattle.number_model.proofs.Enclosures.{Holds-add, Holds-mul, Holds-ratio}
use Rattle.interval_num.specs.Ends.{least_product, greatest_product}
use Rattle.interval_num.proofs.ProductLemmas.{Encloses4-products}
use Rattle.water_model.specs.Decimal.{whole_power}
use Rattle.water_model.specs.Water.{sum_over}
use Rattle.dec_tables.specs.declared.table.Term.{Term}
use Rattle.dec_tables.specs.Coefficients.{coefficient_of}
use Rattle.region1_algebra.specs.Terms.{value_of}
use Rattle.region1_terms.proofs.Scaled.{term_same, times_one, y_rising}

pub record Ends : Type 0 where
  pub lo : ℤ
  pub hi : ℤ

-- x lies between the ends
pub record Between (e : Ends) (x : Fraction) : Type 0 where
  pub holds : Holds 56 e.lo e.hi x

unfoldable pub nothing : Ends
nothing = record { lo = pos 0; hi = pos 0 }

pub Between-nothing : Between nothing (whole 0)
unfolding nothing
Between-nothing = record { holds = record { low = record { crossed = omega (arith, ints) }; high = record { crossed = omega (arith, ints) } } }

unfoldable pub of_fraction : Fraction → Ends
of_fraction x = record { lo = floor_div (x.num *ℤ pos (2 ^ 56)) x.den; hi = ceil_div (x.num *ℤ pos (2 ^ 56)) x.den }

pub Between-fraction : (x : Fraction) → Between (of_fraction x) x
unfolding of_fraction
Between-fraction x = record { holds = Holds-ratio 56 x.num (pos x.den) x (positive x.den x.positive) (IsRatio-written x.num (pos x.den) x refl refl) }
  where
    positive : (d : ℕ) → 0 < d → pos 1 ≤ℤ pos d
    positive d h = omega (arith, ints)

unfoldable pub plus : Ends → Ends → Ends
plus a b = record { lo = a.lo +ℤ b.lo; hi = a.hi +ℤ b.hi }

pub Between-plus : (a b : Ends) (x y : Fraction) → Between a x → Between b y → Between (plus a b) (x +ℚ y)
unfolding plus
Between-plus a b x y p q = record { holds = Holds-add 56 a.lo a.hi b.lo b.hi x y p.holds q.holds }

unfoldable pub times : Ends → Ends → Ends
times a b = record { lo = floor_div (least_product a.lo a.hi b.lo b.hi) (2 ^ 56); hi = ceil_div (greatest_product a.lo a.hi b.lo b.hi) (2 ^ 56) }

pub Between-times : (a b : Ends) (x y : Fraction) → Between a x → Between b y → Between (times a b) (x *ℚ y)
unfolding times
Between-times a b x y p q = record { holds = Holds-mul 56 _ _ a.lo a.hi b.lo b.hi x y (Encloses4-products 56 a.lo a.hi b.lo b.hi) p.holds q.holds }

unfoldable pub raised : Ends → ℕ → Ends
raised a zero = record { lo = pos (2 ^ 56); hi = pos (2 ^ 56) }
raised a (suc n) = times (raised a n) a

pub Between-raised : (a : Ends) (x : Fraction) (n : ℕ) → Between a x → Between (raised a n) (power x n)
unfolding raised power
Between-raised a x zero p = record { holds = record { low = record { crossed = omega (arith, ints) }; high = record { crossed = omega (arith, ints) } } }
Between-raised a x (suc n) p = Between-times (raised a n) a (power x n) x (Between-raised a x n p) p

-- ---- wider ends
widen_low : (l m : ℤ) (b : ℕ) (a : ℤ) → m ≤ℤ l → (l *ℤ pos b) ≤ℤ a → (m *ℤ pos b) ≤ℤ a
widen_low l m b a h k = ≤ℤ_trans (mul-le_pos b h) k

widen_high : (l m : ℤ) (b : ℕ) (a : ℤ) → l ≤ℤ m → a ≤ℤ (l *ℤ pos b) → a ≤ℤ (m *ℤ pos b)
widen_high l m b a h k = ≤ℤ_trans k (mul-le_pos b h)

pub Between-wider : (e : Ends) (l h : ℤ) (x : Fraction) → l ≤ℤ e.lo → e.hi ≤ℤ h → Between e x → Between (record { lo = l; hi = h }) x
Between-wider e l h x low high p = record {
  holds = record {
    low = record { crossed = widen_low e.lo l x.den _ low p.holds.low.crossed };
    high = record { crossed = widen_high e.hi h x.den _ high p.holds.high.crossed };
  };
}

pub le_from : (a b : ℤ) → le_z a b ≡ true → a ≤ℤ b
le_from a b h = grind (arith, ints)

-- ---- terms, from the ends of x / 8, y / 4 and 1 / y
abbrev pub shift : ℤ → ℕ
shift (pos n) = 56 + 2 * n
shift (negsuc n) = 56

unfoldable pub y_ends : Ends → Ends → ℤ → Ends
y_ends q z (pos n) = raised q n
y_ends q z (negsuc n) = raised z (suc n)

Between-y : (q z : Ends) (y : Fraction) (j : ℤ) → Between q (y *ℚ part 4 (lit< tt)) → Between z (inverse y) → Between (y_ends q z j) (times_ℚ (whole_power y j) (2 ^ 56) (2 ^ shift j) (pow_pos (shift j)))
unfolding y_ends whole_power
Between-y q z y (pos n) a b = record { holds = Holds-same (y_rising y (pos n) n (omega (arith, ints)) refl) (Between-raised q (y *ℚ part 4 (lit< tt)) n a).holds }
Between-y q z y (negsuc n) a b = record { holds = Holds-same (times_one (power (inverse y) (suc n)) (2 ^ 56) (pow_pos 56)) (Between-raised z (inverse y) (suc n) b).holds }

unfoldable pub term_ends : Ends → Ends → Ends → Term → Ends
term_ends x q z t = times (of_fraction (coefficient_of t *ℚ whole (2 ^ (3 * t.i + shift t.j - 56)))) (times (raised x t.i) (y_ends q z t.j))

pub Between-term : (x q z : Ends) (p y : Fraction) (t : Term) → Between x (p *ℚ part 8 (lit< tt)) → Between q (y *ℚ part 4 (lit< tt)) → Between z (inverse y) → Between (term_ends x q z t) (value_of p y t)
unfolding term_ends
Between-term x q z p y t a b c = record {
  holds = Holds-same (term_same (coefficient_of t) p (whole_power y t.j) t.i (shift t.j) (3 * t.i + shift t.j - 56) (back t.i t.j))
      (Between-times (of_fraction (coefficient_of t *ℚ whole (2 ^ (3 * t.i + shift t.j - 56)))) (times (raised x t.i) (y_ends q z t.j)) _ _ (Between-fraction (coefficient_of t *ℚ whole (2 ^ (3 * t.i + shift t.j - 56))))
      (Between-times (raised x t.i) (y_ends q z t.j) _ _ (Between-raised x (p *ℚ part 8 (lit< tt)) t.i a) (Between-y q z y t.j b c))).holds;
}
  where
    back : (i : ℕ) (j : ℤ) → (3 * i + shift j - 56) + 56 ≡ 3 * i + shift j
    back i (pos n) = omega arith
    back i (negsuc n) = omega arith

unfoldable pub sum_ends : (Term → Term) → Ends → Ends → Ends → List Term → Ends
sum_ends f x q z [] = nothing
sum_ends f x q z (t ∷ ts) = plus (term_ends x q z (f t)) (sum_ends f x q z ts)

pub Between-sum : (f : Term → Term) (x q z : Ends) (p y : Fraction) (ts : List Term) → Between x (p *ℚ part 8 (lit< tt)) → Between q (y *ℚ part 4 (lit< tt)) → Between z (inverse y) → Between (sum_ends f x q z ts) (sum_over (λ t. value_of p y (f t)) ts)
unfolding sum_ends sum_over
Between-sum f x q z p y [] a b c = Between-nothing
Between-sum f x q z p y (t ∷ ts) a b c = Between-plus (term_ends x q z (f t)) (sum_ends f x q z ts) _ _ (Between-term x q z p y (f t) a b c) (Between-sum f x q z p y ts a b c)
