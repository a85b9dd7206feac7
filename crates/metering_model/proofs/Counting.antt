-- The tests on samples agree with the statements.
use Rattle.std.proofs.Common.{◌≡◌, ℕ, zero, suc, ◌+◌, ◌*◌, ◌<◌, ◌≤◌, true, false, ◌&&◌, ◌⊎◌, inl, inr, nat_le, ℤ, pos, ◌+ℤ◌, ◌*ℤ◌, ◌≤ℤ◌, refl, sym, ap, ◌∙◌, arith}
use Rattle.std.proofs.lemmas.Int.{ints}
use Rattle.std.proofs.Math.Arith.{le_of_le-suc-ne}
use Rattle.std.proofs.lemmas.Bool.{cases_Bool, cases_eq, true≢false, and_from, and_parts, and_left, and_right, false_from_ne_true, le-leb, lt-leb, leb-true}
use Rattle.number_model.specs.Fraction.{Fraction, ◌≤ℚ◌, ◌+ℚ◌, ◌-ℚ◌, whole}
use Rattle.number_model.proofs.Ints.{mul-le_pos, recast}
use Rattle.number_model.proofs.Order.{≤ℚ_trans}
use Rattle.platinum_model.specs.Element.{Element, resistance, microdegrees}
use Rattle.platinum_model.specs.Sample.{IsInRange, IsWholeTemp}
use Rattle.platinum_model.specs.Pair.{IsCountingPair, IsSmallPair}
use Rattle.platinum_model.proofs.Order.{le_of_same}
use Rattle.platinum_model.proofs.Samples.{resistance-same, IsWholeTemp-unique}
use Rattle.metering_model.specs.Settings.{Settings}
use Rattle.metering_model.specs.Counting.{is_at_most, is_in_range, greatest_to, whole_temp, counts}

at_most-true : {x y : Fraction} → x ≤ℚ y → is_at_most x y ≡ true
at_most-true {x} {y} h = let k = h.crossed in grind (arith, ints)

at_most-is : (x y : Fraction) → is_at_most x y ≡ true → x ≤ℚ y
at_most-is x y e = record { crossed = grind (arith, ints) }

pub in_range-true : (e : Element) (r : ℕ) → IsInRange e r → is_in_range e r ≡ true
unfolding is_in_range
in_range-true e r h = and_from _ _ (at_most-true h.above) (at_most-true h.below)

pub in_range-is : (e : Element) (r : ℕ) → is_in_range e r ≡ true → IsInRange e r
unfolding is_in_range
in_range-is e r h =
    let both = and_parts (is_at_most (resistance e (whole 0) +ℚ whole 1) (whole r)) (is_at_most (whole r) (resistance e (whole 180) -ℚ whole 1)) h in
    record { above = at_most-is _ _ both.0; below = at_most-is _ _ both.1 }

pub in_range-false : (e : Element) (r : ℕ) → (IsInRange e r → ⊥) → is_in_range e r ≡ false
in_range-false e r out = false_from_ne_true (is_in_range e r) (λ h. out (in_range-is e r h))

-- t is the greatest whole number of microdegrees up to n at which the resistance is at most r
record IsGreatestTo (n : ℕ) (e : Element) (r t : ℕ) : Type 0 where
  range : t ≤ n
  reached : resistance e (microdegrees t) ≤ℚ whole r
  greatest : (s : ℕ) → s ≤ n → resistance e (microdegrees s) ≤ℚ whole r → s ≤ t

-- where n + 1 microdegrees are too many, the greatest up to n is also that up to n + 1
by_order : (n : ℕ) (e : Element) (r t : ℕ) → IsGreatestTo n e r t → is_at_most (resistance e (microdegrees (suc n))) (whole r) ≡ false → (s : ℕ) → s ≤ suc n → resistance e (microdegrees s) ≤ℚ whole r → (s ≡ suc n) ⊎ (s ≡ suc n → ⊥) → s ≤ t
by_order n e r t rest above s h k (inl same) =
    let here : is_at_most (resistance e (microdegrees (suc n))) (whole r) ≡ true = ap (λ m. is_at_most (resistance e (microdegrees m)) (whole r)) (sym same) ∙ at_most-true k in
    absurd (true≢false (sym here ∙ above))
by_order n e r t rest above s h k (inr differ) = rest.greatest s (le_of_le-suc-ne h differ) k

one_further : (n : ℕ) (e : Element) (r : ℕ) → IsGreatestTo n e r (greatest_to n e r) → IsGreatestTo (suc n) e r (greatest_to (suc n) e r)
unfolding greatest_to
one_further n e r rest =
    elim (cases_Bool (is_at_most (resistance e (microdegrees (suc n))) (whole r))) [
      | inl reached ↦ rw reached (record { range = omega arith; reached = at_most-is (resistance e (microdegrees (suc n))) (whole r) reached; greatest = λ s h k. h })
      | inr above ↦ rw above (record { range = omega (arith, rest.range); reached = rest.reached; greatest = λ s h k. by_order n e r _ rest above s h k (cases_eq s (suc n)) })
    ]

greatest_to-is : (n : ℕ) (e : Element) (r : ℕ) → resistance e (microdegrees 0) ≤ℚ whole r → IsGreatestTo n e r (greatest_to n e r)
unfolding greatest_to
greatest_to-is zero e r low = record { range = omega arith; reached = low; greatest = λ s h k. h }
greatest_to-is (suc n) e r low = one_further n e r (greatest_to-is n e r low)

one_more : (x : Fraction) → x ≤ℚ (x +ℚ whole 1)
one_more x = record { crossed = law x.num x.den }
  where
    law : (a : ℤ) (b : ℕ) → (a *ℤ pos (b * 1)) ≤ℤ ((a *ℤ pos 1 +ℤ pos 1 *ℤ pos b) *ℤ pos b)
    law a b =
        let more : a ≤ℤ (a *ℤ pos 1 +ℤ pos 1 *ℤ pos b) = omega (arith, ints) in
        let same : b * 1 ≡ b = omega arith in
        recast (mul-le_pos b more) (ap (λ n. a *ℤ pos n) same) refl

from_0 : (e : Element) (r : ℕ) → IsInRange e r → resistance e (microdegrees 0) ≤ℚ whole r
from_0 e r h =
    let same : resistance e (microdegrees 0) ≤ℚ resistance e (whole 0) = le_of_same (resistance-same e {s = microdegrees 0} {t = whole 0} (record { crossed = refl })) in
    ≤ℚ_trans same (≤ℚ_trans (one_more (resistance e (whole 0))) h.above)

-- the temperature that is computed is the whole temperature
pub whole_temp-is : (e : Element) (r : ℕ) → IsInRange e r → IsWholeTemp e r (whole_temp e r)
unfolding whole_temp
whole_temp-is e r h =
    let found = greatest_to-is 180000000 e r (from_0 e r h) in
    record { range = found.range; reached = found.reached; greatest = found.greatest }

pub counts-true : (c : Settings) (rf rr : ℕ) → IsCountingPair c.flow c.ret rf rr → counts c rf rr ≡ true
counts-true c rf rr pair =
    let flow : whole_temp c.flow rf ≡ pair.flow_udeg = IsWholeTemp-unique c.flow rf _ _ (whole_temp-is c.flow rf pair.temps.flow_in_range) pair.temps.flow_temp in
    let ret : whole_temp c.ret rr ≡ pair.return_udeg = IsWholeTemp-unique c.ret rr _ _ (whole_temp-is c.ret rr pair.temps.return_in_range) pair.temps.return_temp in
    let apart : whole_temp c.ret rr + 10000 ≤ whole_temp c.flow rf = omega (arith, pair.apart) in
    and_from _ _ (and_from _ _ (in_range-true c.flow rf pair.temps.flow_in_range) (in_range-true c.ret rr pair.temps.return_in_range)) (le-leb _ _ apart)

pub counts-false : (c : Settings) (rf rr : ℕ) → IsSmallPair c.flow c.ret rf rr → counts c rf rr ≡ false
counts-false c rf rr pair =
    let flow : whole_temp c.flow rf ≡ pair.flow_udeg = IsWholeTemp-unique c.flow rf _ _ (whole_temp-is c.flow rf pair.temps.flow_in_range) pair.temps.flow_temp in
    let ret : whole_temp c.ret rr ≡ pair.return_udeg = IsWholeTemp-unique c.ret rr _ _ (whole_temp-is c.ret rr pair.temps.return_in_range) pair.temps.return_temp in
    let close : whole_temp c.flow rf < whole_temp c.ret rr + 10000 = omega (arith, pair.close) in
    and_right _ _ (lt-leb _ _ close)

-- where a sample is out of range, nothing counts
pub counts-no_flow : (c : Settings) (rf rr : ℕ) → (IsInRange c.flow rf → ⊥) → counts c rf rr ≡ false
counts-no_flow c rf rr out = and_left _ _ (and_left _ _ (in_range-false c.flow rf out))

pub counts-no_return : (c : Settings) (rf rr : ℕ) → (IsInRange c.ret rr → ⊥) → counts c rf rr ≡ false
counts-no_return c rf rr out = and_left _ _ (and_right _ _ (in_range-false c.ret rr out))

pub counts-is : (c : Settings) (rf rr : ℕ) → counts c rf rr ≡ true → IsCountingPair c.flow c.ret rf rr
counts-is c rf rr h =
    let all = and_parts (is_in_range c.flow rf && is_in_range c.ret rr) (nat_le (whole_temp c.ret rr + 10000) (whole_temp c.flow rf)) h in
    let both = and_parts (is_in_range c.flow rf) (is_in_range c.ret rr) all.0 in
    let flow = in_range-is c.flow rf both.0 in
    let ret = in_range-is c.ret rr both.1 in
    record {
      flow_udeg = whole_temp c.flow rf;
      return_udeg = whole_temp c.ret rr;
      temps = record { flow_in_range = flow; return_in_range = ret; flow_temp = whole_temp-is c.flow rf flow; return_temp = whole_temp-is c.ret rr ret };
      apart = leb-true _ _ all.1;
    }
