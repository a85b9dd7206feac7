-- The magnitudes and widths of the evaluation, computed.
use Rattle.std.proofs.Common.{◌+◌, ◌-◌, ◌*◌, ◌^◌, ◌≤◌, suc, lit≤}
use Rattle.water_model.specs.Region1.{region1}
use Rattle.enclosure_sizes.specs.Size.{Size, parts, horner_size, product_size, up_size, sum_size, slope}
use Rattle.dec_tables.specs.declared.part.Part.TheVariants.{VolumeUp, VolumeDown, HeatUp, HeatDown}
use Rattle.dec_tables.specs.Sizes.{coefficient_size, total_size, total}
use Rattle.region1_terms.specs.Variables.{u_size, r_size}
use Rattle.if97_region1.specs.Sizes.{quarter_size, inverse_size, higher_size, falling_size, linear_size, offset_size, joined_size, volume_size, volume_factor_size, heat_size, heat_factor_size, enthalpy_size}
use Rattle.if97_region1.proofs.Polynomials.{most_sum}
use Rattle.if97_region1.proofs.Facts.{Within}

-- ---- the terms from y^2 on
abbrev pub tail_size : Size
tail_size = horner_size (2 ^ 48) quarter_size (λ k. coefficient_size VolumeUp (suc (suc k))) 16

pub tail_total : most_sum (λ k. coefficient_size VolumeUp (suc (suc k))) 16 + 16 ≤ 2 ^ 61
unfolding most_sum total_size total region1 slope
tail_total = lit≤ tt

pub higher_within : Within (up_size (2 ^ 6) (product_size (2 ^ 48) tail_size quarter_size)) higher_size
unfolding horner_size total_size total region1 slope
higher_within = record { most = lit≤ tt; base = lit≤ tt; per = lit≤ tt }

-- ---- the terms in 1 / y
abbrev pub down_part_size : Size
down_part_size = up_size (2 ^ 16) (horner_size (2 ^ 40) inverse_size (coefficient_size VolumeDown) 42)

abbrev pub down_bound : Size
down_bound = record { most = 897600000000000; base = 1535600000000; per = 4847400000 }

pub down_within : Within down_part_size down_bound
unfolding horner_size total_size total region1 slope
down_within = record { most = lit≤ tt; base = lit≤ tt; per = lit≤ tt }

-- ---- c0 and c1
pub linear_within : Within (up_size (2 ^ 6) (coefficient_size VolumeUp 1)) linear_size
unfolding total_size total region1 slope
linear_within = record { most = lit≤ tt; base = lit≤ tt; per = lit≤ tt }

pub first_within : Within (up_size (2 ^ 8) (coefficient_size VolumeUp 0)) (record { most = 2 ^ 60; base = 5120 * parts; per = 0 })
unfolding total_size total region1 slope
first_within = record { most = lit≤ tt; base = lit≤ tt; per = lit≤ tt }

pub offset_product : offset_size.most * linear_size.most ≤ (2 ^ 62 - 1) * 2 ^ 56
offset_product = lit≤ tt

pub offset_within : Within (product_size (2 ^ 56) offset_size linear_size) (record { most = 2 ^ 60; base = 1567 * parts; per = 1 })
offset_within = record { most = lit≤ tt; base = lit≤ tt; per = lit≤ tt }

-- ---- the volume
pub tail_product : tail_size.most * quarter_size.most ≤ (2 ^ 62 - 1) * 2 ^ 48
unfolding horner_size total_size total region1 slope
tail_product = lit≤ tt

pub first_sum : linear_size.most + (product_size (2 ^ 56) falling_size u_size).most ≤ 2 ^ 62
first_sum = lit≤ tt

pub second_sum : (linear_size.most + (product_size (2 ^ 56) falling_size u_size).most) + (product_size (2 ^ 56) higher_size r_size).most ≤ 2 ^ 62
second_sum = lit≤ tt

pub volume_product : joined_size.most * volume_factor_size.most ≤ (2 ^ 62 - 1) * 2 ^ 56
volume_product = lit≤ tt

pub volume_base : volume_size.base * 10 ^ 15 ≤ 268 * 2 ^ 56 * parts
volume_base = lit≤ tt

pub volume_per : volume_size.per * 10 ^ 15 ≤ 3 * 2 ^ 56 * parts
volume_per = lit≤ tt

-- ---- the enthalpy
abbrev pub heat_up_size : Size
heat_up_size = horner_size (2 ^ 48) quarter_size (coefficient_size HeatUp) 17

abbrev pub heat_down_size : Size
heat_down_size = up_size (2 ^ 8) (horner_size (2 ^ 40) inverse_size (coefficient_size HeatDown) 43)

pub heat_down_most : heat_down_size.most ≤ 2 ^ 62 - 1
unfolding horner_size total_size total region1 slope
heat_down_most = lit≤ tt

pub heat_sum : heat_up_size.most + heat_down_size.most ≤ 2 ^ 62
unfolding horner_size total_size total region1 slope
heat_sum = lit≤ tt

pub heat_product : heat_size.most * heat_factor_size.most ≤ (2 ^ 62 - 1) * 2 ^ 48
heat_product = lit≤ tt

pub heat_base : enthalpy_size.base * 10 ^ 9 ≤ 27 * 2 ^ 48 * parts
heat_base = lit≤ tt

pub heat_per : enthalpy_size.per * 10 ^ 9 ≤ 116 * 2 ^ 48 * parts
heat_per = lit≤ tt

pub heat_within : Within (sum_size heat_up_size heat_down_size) heat_size
unfolding horner_size total_size total region1 slope
heat_within = record { most = lit≤ tt; base = lit≤ tt; per = lit≤ tt }
