-- The sum over the terms: the quotient of the differences of g_tau and y lies between the summed ends of the curvatures.
use Rattle.std.proofs.Common.{◌≡◌, ℕ, ◌+◌, ◌*◌, ◌<◌, ◌≤◌, arith, map, ℤ, pos, neg_ℤ, ◌+ℤ◌, ◌*ℤ◌, List, [], ◌∷◌, length, take, get_or}
use Rattle.number_model.specs.Fraction.{Fraction, ◌<ℚ◌, ◌+ℚ◌, ◌-ℚ◌, ◌/ℚ◌, ◌≈◌, whole}
use Rattle.number_model.specs.Enclosure.{Holds, SpanHolds}
use Rattle.number_model.proofs.Ints.{as_diff, same_diff, pos-diff, ring}
use Rattle.number_model.proofs.Same.{same_refl, same_sym, same_trans, same_mul, same_add, Holds-same}
use Rattle.water_model.specs.Region1.{region1}
use Rattle.water_model.specs.Water.{x_of, y_of, sum_over, g_tau}
use Rattle.dec_tables.specs.declared.table.Term.{Term}
use Rattle.dec_tables.specs.Coefficients.{term_of}
use Rattle.enclosure_sizes.specs.Size.{SizedBy}
use Rattle.dec_tables.specs.Sizes.{total_size}
use Rattle.dec_tables.proofs.Sums.{sum_over_more, size_more}
use Rattle.region1_algebra.specs.Terms.{value_of, tau_derivative_of}
use Rattle.region1_algebra.proofs.Rows.{tau_terms}
use Rattle.region1_terms.specs.Monomial.{Evaluates}
use Rattle.region1_terms.proofs.Temperatures.{ratio}
use Rattle.slope_cert.specs.Curvature.{curvature_of, curvature_size}
use Rattle.slope_cert.proofs.Order.{Quotient, Quotient-same, Quotient-add, Quotient-none, Quotient-holds}
use Rattle.slope_cert.proofs.Terms.{Apart, same_sub, term_quotient}
use Rattle.slope_cert.proofs.Quotients.{apart, y_inverse}

-- ---- differences of sums
cancelled : (z : Fraction) → (z -ℚ z) ≈ whole 0
cancelled z = record { crossed = law z.num z.den }
  where
    law : (a : ℤ) (b : ℕ) → (a *ℤ pos b +ℤ neg_ℤ a *ℤ pos b) *ℤ pos 1 ≡ pos 0 *ℤ pos (b * b)
    law a b = rw (as_diff a, pos-diff (0 * (b * b))) (simp ring (same_diff _ _ _ _ (omega arith)))

regroup : (p q s t : Fraction) → ((p +ℚ s) -ℚ (q +ℚ t)) ≈ ((p -ℚ q) +ℚ (s -ℚ t))
regroup p q s t = record { crossed = law p.num q.num s.num t.num p.den q.den s.den t.den }
  where
    law : (a c e g : ℤ) (b d f h : ℕ)
        → ((a *ℤ pos f +ℤ e *ℤ pos b) *ℤ pos (d * h) +ℤ neg_ℤ (c *ℤ pos h +ℤ g *ℤ pos d) *ℤ pos (b * f)) *ℤ pos ((b * d) * (f * h))
        ≡ ((a *ℤ pos d +ℤ neg_ℤ c *ℤ pos b) *ℤ pos (f * h) +ℤ (e *ℤ pos h +ℤ neg_ℤ g *ℤ pos f) *ℤ pos (b * d)) *ℤ pos ((b * f) * (d * h))
    law a c e g b d f h = rw (as_diff a, as_diff c, as_diff e, as_diff g) (simp ring (same_diff _ _ _ _ (omega arith)))

sum_sub : (f g : Term → Fraction) (ts : List Term) → sum_over (λ t. f t -ℚ g t) ts ≈ (sum_over f ts -ℚ sum_over g ts)
unfolding sum_over
sum_sub f g [] = same_sym (cancelled (whole 0))
sum_sub f g (t ∷ ts) = same_trans (same_add (same_refl (f t -ℚ g t)) (sum_sub f g ts)) (same_sym (regroup (f t) (g t) (sum_over f ts) (sum_over g ts)))

-- ---- the change of g_tau from y1 to y2, term by term
abbrev pub change_of : (x y1 y2 : Fraction) → Term → Fraction
change_of x y1 y2 t = value_of x y2 (tau_derivative_of t) -ℚ value_of x y1 (tau_derivative_of t)

heat_change : (x y1 y2 : Fraction) → sum_over (change_of x y1 y2) (map term_of region1) ≈ (g_tau x y2 -ℚ g_tau x y1)
heat_change x y1 y2 =
    same_trans (sum_sub (λ t. value_of x y2 (tau_derivative_of t)) (λ t. value_of x y1 (tau_derivative_of t)) (map term_of region1))
    (same_sub (tau_terms x y2) (tau_terms x y1))

-- at p kPa and for two temperatures from lo to hi nanodegrees, the change over that of y lies between l and h
pub record ChangesHeld (p lo hi : ℕ) (ts : List Term) (l h : ℤ) : Type 0 where
  pub held : (t1 t2 : Fraction) → SpanHolds lo hi t1 → SpanHolds lo hi t2 → (a b e n : ℕ) (w : Apart (y_of t1) (y_of t2) a b e n)
      → Quotient 56 l h (sum_over (change_of (x_of p) (y_of t1) (y_of t2)) ts) (ratio e n w.n_above)

pub no_change : (p lo hi : ℕ) (l h : ℤ) → l ≡ pos 0 → h ≡ pos 0 → ChangesHeld p lo hi [] l h
unfolding sum_over
no_change p lo hi l h f g = record { held = λ t1 t2 s1 s2 a b e n w. rw (f, g) (Quotient-none 56 (ratio e n w.n_above)) }

pub one_more_change : (p lo hi : ℕ) (ts : List Term) (i : ℕ) (d : Term) (l h l' h' m k : ℤ) → i < length ts → ChangesHeld p lo hi (take i ts) l h → Evaluates p lo hi (curvature_of (get_or ts i d)) l' h'
    → m ≡ l +ℤ l' → k ≡ h +ℤ h' → ChangesHeld p lo hi (take (i + 1) ts) m k
one_more_change p lo hi ts i d l h l' h' m k few q v f g = record {
  held = λ t1 t2 s1 s2 a b e n w.
      let change = change_of (x_of p) (y_of t1) (y_of t2) in
      rw (f, g) (Quotient-same (sum_over_more change ts i d few)
      (Quotient-add 56 l h l' h' (sum_over change (take i ts)) (change (get_or ts i d)) (ratio e n w.n_above) (q.held t1 t2 s1 s2 a b e n w)
      (term_quotient (x_of p) (y_of t1) (y_of t2) a b e n w (get_or ts i d) l' h' (v.holds t1 s1) (v.holds t2 s2))));
}

-- the size of the sum with one more term
pub one_more_size : (w : ℕ) (ts : List Term) (i : ℕ) (d : Term) (l h l' h' m k : ℤ) → i < length ts → SizedBy (total_size curvature_size (take i ts)) w l h → SizedBy (curvature_size (get_or ts i d)) w l' h'
    → m ≡ l +ℤ l' → k ≡ h +ℤ h' → SizedBy (total_size curvature_size (take (i + 1) ts)) w m k
one_more_size w ts i d l h l' h' m k few y z f g = rw (f, g) (size_more curvature_size w ts i d l h l' h' few y z)

pub quotient_held : (p lo hi : ℕ) (order : lo ≤ hi) (top : hi ≤ 180000000000) (l h : ℤ) → ChangesHeld p lo hi (map term_of region1) l h
    → (t1 t2 : Fraction) → SpanHolds lo hi t1 → SpanHolds lo hi t2 → t1 <ℚ t2 → Holds 56 l h ((g_tau (x_of p) (y_of t2) -ℚ g_tau (x_of p) (y_of t1)) /ℚ (y_of t1 -ℚ y_of t2))
quotient_held p lo hi order top l h q t1 t2 s1 s2 less =
    let w = apart lo hi order top t1 t2 s1 s2 less in
    Holds-same (same_mul (same_refl (g_tau (x_of p) (y_of t2) -ℚ g_tau (x_of p) (y_of t1))) (same_sym (y_inverse lo hi order top t1 t2 s1 s2 less)))
    (Quotient-holds 56 l h _ _ _ w.n_above w.e_above (Quotient-same (heat_change (x_of p) (y_of t1) (y_of t2)) (q.held t1 t2 s1 s2 _ _ _ _ w)))
