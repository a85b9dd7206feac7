-- Verdicts worked by hand: at each limit, and one unit beyond it.
use Rattle.std.proofs.Common.{◌≡◌, refl}
use Rattle.number_model.specs.Fraction.{whole}
use Rattle.bench_model.specs.Verdicts.{Pass, High, Low, calculator_verdict, pair_verdict, flow_verdict}

-- ---- the calculator, at a difference of 3 °C with the least difference 3 °C: 1.5 % of 12,500,000 mJ are 187,500 mJ

at_upper_limit : calculator_verdict 3000000 3000000 1 12687500 (whole 12500000) ≡ Pass
unfolding calculator_verdict
at_upper_limit = refl

above_it : calculator_verdict 3000000 3000000 1 12687501 (whole 12500000) ≡ High
unfolding calculator_verdict
above_it = refl

at_lower_limit : calculator_verdict 3000000 3000000 1 12312500 (whole 12500000) ≡ Pass
unfolding calculator_verdict
at_lower_limit = refl

below_it : calculator_verdict 3000000 3000000 1 12312499 (whole 12500000) ≡ Low
unfolding calculator_verdict
below_it = refl

true_energy : calculator_verdict 3000000 3000000 1 12500000 (whole 12500000) ≡ Pass
unfolding calculator_verdict
true_energy = refl

-- 12,690,000 mJ are above the limit for 12,500,000 mJ, and not above that for 12,510,000 mJ
high_at_one_end : calculator_verdict 3000000 3000000 1 12690000 (whole 12500000) ≡ High
unfolding calculator_verdict
high_at_one_end = refl

passes_at_other_end : calculator_verdict 3000000 3000000 1 12690000 (whole 12510000) ≡ Pass
unfolding calculator_verdict
passes_at_other_end = refl

-- at 30 °C the limits are 0.6 %: 75,000 mJ; and for 10 litres 750,000 mJ
wide_difference : calculator_verdict 3000000 30000000 1 12575000 (whole 12500000) ≡ Pass
unfolding calculator_verdict
wide_difference = refl

above_wide_difference : calculator_verdict 3000000 30000000 1 12575001 (whole 12500000) ≡ High
unfolding calculator_verdict
above_wide_difference = refl

ten_litres : calculator_verdict 3000000 30000000 10 124250000 (whole 12500000) ≡ Pass
unfolding calculator_verdict
ten_litres = refl

below_ten_litres : calculator_verdict 3000000 30000000 10 124249999 (whole 12500000) ≡ Low
unfolding calculator_verdict
below_ten_litres = refl

-- ---- the pair, at the same differences: 3.5 % of 3 °C are 105,000,000 nanodegrees

pair_at_upper_limit : pair_verdict 3000000000 3000000000 (whole 3105000000) ≡ Pass
unfolding pair_verdict
pair_at_upper_limit = refl

pair_above_it : pair_verdict 3000000000 3000000000 (whole 3105000001) ≡ High
unfolding pair_verdict
pair_above_it = refl

pair_at_lower_limit : pair_verdict 3000000000 3000000000 (whole 2895000000) ≡ Pass
unfolding pair_verdict
pair_at_lower_limit = refl

pair_below_it : pair_verdict 3000000000 3000000000 (whole 2894999999) ≡ Low
unfolding pair_verdict
pair_below_it = refl

-- ---- flow sensors, with the permanent flow 1,500

-- at a hundredth of the permanent flow class 2 has the limits 4 %
class_2_at_limit : flow_verdict 2 1500 15 100000 104000 ≡ Pass
class_2_at_limit = refl

class_2_above_it : flow_verdict 2 1500 15 100000 104001 ≡ High
class_2_above_it = refl

class_2_at_lower_limit : flow_verdict 2 1500 15 100000 96000 ≡ Pass
class_2_at_lower_limit = refl

class_2_below_it : flow_verdict 2 1500 15 100000 95999 ≡ Low
class_2_below_it = refl

-- at smaller flows at most 5 %
class_2_greatest : flow_verdict 2 1500 6 100000 105000 ≡ Pass
class_2_greatest = refl

class_2_above_greatest : flow_verdict 2 1500 6 100000 105001 ≡ High
class_2_above_greatest = refl

-- class 1: 1.01 % at the permanent flow, and at most 3.5 %
class_1_at_permanent_flow : flow_verdict 1 1500 1500 100000 101010 ≡ Pass
class_1_at_permanent_flow = refl

class_1_above_it : flow_verdict 1 1500 1500 100000 101011 ≡ High
class_1_above_it = refl

class_1_greatest : flow_verdict 1 1500 1 100000 103500 ≡ Pass
class_1_greatest = refl

class_1_above_greatest : flow_verdict 1 1500 1 100000 103501 ≡ High
class_1_above_greatest = refl

-- class 3: 3.05 % at the permanent flow, and at most 5 %
class_3_at_permanent_flow : flow_verdict 3 1500 1500 100000 103050 ≡ Pass
class_3_at_permanent_flow = refl

class_3_above_it : flow_verdict 3 1500 1500 100000 103051 ≡ High
class_3_above_it = refl

class_3_below_greatest : flow_verdict 3 1500 1 100000 94999 ≡ Low
class_3_below_greatest = refl
