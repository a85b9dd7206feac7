-- Resistances after IEC 60751, and what samples of Pt500 sensors say, worked by fractions.
use Rattle.std.proofs.Common.{◌≡◌, ◌*◌, ◌^◌, ◌<◌, ◌≤◌, lit<, lit≤, refl, arith}
use lib.Signed.{le_z_yes}
use Rattle.number_model.specs.Fraction.{◌≈◌, whole}
use Rattle.platinum_model.specs.Element.{Element, nominal, resistance, scaled_resistance, microdegrees}
use Rattle.platinum_model.specs.Sample.{IsInRange, IsWholeTemp, IsInCell, AreCellEnds, IsCellSpan}
use Rattle.platinum_model.specs.Pair.{AreWholeTemps, IsCountingPair, IsSmallPair}
use Rattle.platinum_model.proofs.Curve.{IsRising}
use Rattle.platinum_model.proofs.Samples.{IsWholeTemp-found}
use Rattle.platinum_model.proofs.Cells.{AreCellEnds-found, IsCellSpan-found}
use Rattle.platinum_model.proofs.Pairs.{counting-unique, small-unique}

abbrev pt100 : Element
pt100 = nominal 100000000

abbrev pub pt500 : Element
pt500 = nominal 500000000

abbrev pt1000 : Element
pt1000 = nominal 1000000000

-- ---- resistances at 0, 50, 60, 100 and 180 °C

pt100_at_0 : resistance pt100 (whole 0) ≈ whole 100000000
unfolding resistance
pt100_at_0 = record { crossed = refl }

pt100_at_100 : resistance pt100 (whole 100) ≈ whole 138505500
unfolding resistance
pt100_at_100 = record { crossed = refl }

pt100_at_180 : resistance pt100 (whole 180) ≈ whole 168478300
unfolding resistance
pt100_at_180 = record { crossed = refl }

pt500_at_50 : resistance pt500 (whole 50) ≈ whole 596985625
unfolding resistance
pt500_at_50 = record { crossed = refl }

pt500_at_60 : resistance pt500 (whole 60) ≈ whole 616209500
unfolding resistance
pt500_at_60 = record { crossed = refl }

pt500_at_180 : resistance pt500 (whole 180) ≈ whole 842391500
unfolding resistance
pt500_at_180 = record { crossed = refl }

pt1000_at_100 : resistance pt1000 (whole 100) ≈ whole 1385055000
unfolding resistance
pt1000_at_100 = record { crossed = refl }

-- 10^28 times 596.985625 ohms in microohms
scaled_at_50 : scaled_resistance pt500 50000000000 ≡ 596985625 * 10 ^ 28
unfolding scaled_resistance
scaled_at_50 = refl

-- ---- samples of a Pt500

pub rising : IsRising pt500
rising = record { conducts = lit< tt; steep = lit< tt }

-- in range are the samples from one microohm above the resistance at 0 °C to one below that at 180 °C
lowest : IsInRange pt500 500000001
unfolding resistance
lowest = record { above = record { crossed = le_z_yes tt }; below = record { crossed = le_z_yes tt } }

highest : IsInRange pt500 842391499
unfolding resistance
highest = record { above = record { crossed = le_z_yes tt }; below = record { crossed = le_z_yes tt } }

pub too_low : IsInRange pt500 500000000 → ⊥
unfolding resistance
too_low range = range.above.crossed.le

pub too_high : IsInRange pt500 842391500 → ⊥
unfolding resistance
too_high range = range.below.crossed.le

-- the whole temperature of the sample at 50 °C, and of the one below it; those of the ends of the range
pub whole_temp_at_50 : IsWholeTemp pt500 596985625 50000000
unfolding scaled_resistance
whole_temp_at_50 = IsWholeTemp-found pt500 596985625 50000000 rising (lit< tt) (lit≤ tt) (lit< tt)

whole_temp_before_50 : IsWholeTemp pt500 596985624 49999999
unfolding scaled_resistance
whole_temp_before_50 = IsWholeTemp-found pt500 596985624 49999999 rising (lit< tt) (lit≤ tt) (lit< tt)

whole_temp_lowest : IsWholeTemp pt500 500000001 0
unfolding scaled_resistance
whole_temp_lowest = IsWholeTemp-found pt500 500000001 0 rising (lit< tt) (lit≤ tt) (lit< tt)

whole_temp_highest : IsWholeTemp pt500 842391499 179999999
unfolding scaled_resistance
whole_temp_highest = IsWholeTemp-found pt500 842391499 179999999 rising (lit< tt) (lit≤ tt) (lit< tt)

-- 50 °C is in the cell of its sample, and 50.000001 °C is not
pub in_cell : IsInCell pt500 596985625 (whole 50)
unfolding resistance
in_cell = record {
  above_0 = record { crossed = le_z_yes tt };
  below_180 = record { crossed = le_z_yes tt };
  low = record { crossed = le_z_yes tt };
  high = record { crossed = le_z_yes tt };
}

not_in_cell : IsInCell pt500 596985625 (microdegrees 50000001) → ⊥
unfolding resistance
not_in_cell cell = cell.high.crossed.le

-- the whole nanodegrees about that cell
cell_ends : AreCellEnds pt500 596985625 49999999740 50000000260
unfolding scaled_resistance
cell_ends = AreCellEnds-found pt500 596985625 49999999740 50000000259 rising (lit< tt) (lit< tt) (lit< tt) (lit≤ tt) (lit< tt) (lit< tt) (lit≤ tt)

pub in_range : IsInRange pt500 596985625
unfolding resistance
in_range = record { above = record { crossed = le_z_yes tt }; below = record { crossed = le_z_yes tt } }

cell_span : IsCellSpan pt500 596985625 49999999740 50000000260
cell_span = IsCellSpan-found pt500 596985625 49999999740 50000000260 (record { rising = rising; slope = lit< tt }) in_range cell_ends

-- ---- pairs: a flow of 50.01 °C over a return of 50 °C counts, and one of 50.009999 °C does not

warmer_in_range : IsInRange pt500 597004878
unfolding resistance
warmer_in_range = record { above = record { crossed = le_z_yes tt }; below = record { crossed = le_z_yes tt } }

close_in_range : IsInRange pt500 597004877
unfolding resistance
close_in_range = record { above = record { crossed = le_z_yes tt }; below = record { crossed = le_z_yes tt } }

warmer_temp : IsWholeTemp pt500 597004878 50010000
unfolding scaled_resistance
warmer_temp = IsWholeTemp-found pt500 597004878 50010000 rising (lit< tt) (lit≤ tt) (lit< tt)

close_temp : IsWholeTemp pt500 597004877 50009999
unfolding scaled_resistance
close_temp = IsWholeTemp-found pt500 597004877 50009999 rising (lit< tt) (lit≤ tt) (lit< tt)

warmer_temps : AreWholeTemps pt500 pt500 597004878 596985625 50010000 50000000
warmer_temps = record { flow_in_range = warmer_in_range; return_in_range = in_range; flow_temp = warmer_temp; return_temp = whole_temp_at_50 }

close_temps : AreWholeTemps pt500 pt500 597004877 596985625 50009999 50000000
close_temps = record { flow_in_range = close_in_range; return_in_range = in_range; flow_temp = close_temp; return_temp = whole_temp_at_50 }

pub counts : IsCountingPair pt500 pt500 597004878 596985625
counts = record { flow_udeg = 50010000; return_udeg = 50000000; temps = warmer_temps; apart = lit≤ tt }

pub is_small : IsSmallPair pt500 pt500 597004877 596985625
is_small = record { flow_udeg = 50009999; return_udeg = 50000000; temps = close_temps; close = lit< tt }

-- 60 °C over 50 °C, and the ends of the range
in_range_60 : IsInRange pt500 616209500
unfolding resistance
in_range_60 = record { above = record { crossed = le_z_yes tt }; below = record { crossed = le_z_yes tt } }

whole_temp_at_60 : IsWholeTemp pt500 616209500 60000000
unfolding scaled_resistance
whole_temp_at_60 = IsWholeTemp-found pt500 616209500 60000000 rising (lit< tt) (lit≤ tt) (lit< tt)

pub counts_10 : IsCountingPair pt500 pt500 616209500 596985625
counts_10 = record {
  flow_udeg = 60000000;
  return_udeg = 50000000;
  temps = record { flow_in_range = in_range_60; return_in_range = in_range; flow_temp = whole_temp_at_60; return_temp = whole_temp_at_50 };
  apart = lit≤ tt;
}

pub counts_180 : IsCountingPair pt500 pt500 842391499 500000001
counts_180 = record {
  flow_udeg = 179999999;
  return_udeg = 0;
  temps = record { flow_in_range = highest; return_in_range = lowest; flow_temp = whole_temp_highest; return_temp = whole_temp_lowest };
  apart = lit≤ tt;
}

-- the temperatures are in the cells of their samples
pub in_cell_60 : IsInCell pt500 616209500 (whole 60)
unfolding resistance
in_cell_60 = record {
  above_0 = record { crossed = le_z_yes tt };
  below_180 = record { crossed = le_z_yes tt };
  low = record { crossed = le_z_yes tt };
  high = record { crossed = le_z_yes tt };
}

-- and not the other way round
pub counts_not_small : IsSmallPair pt500 pt500 597004878 596985625 → ⊥
counts_not_small small = let close : 50010000 < 50010000 = small-unique pt500 pt500 597004878 596985625 50010000 50000000 warmer_temps small in omega arith

small_counts_not : IsCountingPair pt500 pt500 597004877 596985625 → ⊥
small_counts_not counting = let apart : 50010000 ≤ 50009999 = counting-unique pt500 pt500 597004877 596985625 50009999 50000000 close_temps counting in omega arith
