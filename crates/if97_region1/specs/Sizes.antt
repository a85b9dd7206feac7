-- The sizes of the parts that the volume and the enthalpy are put together from.
use Rattle.std.specs.Prelude.{ℕ, ◌+◌, ◌*◌, ◌/◌, ◌^◌}
use Rattle.enclosure_sizes.specs.Size.{Size, parts, product_size, sum_size}
use Rattle.region1_terms.specs.Variables.{u_size, r_size}

-- y / 4 at the scale 2^48, and 1 / y at 2^40
abbrev pub quarter_size : Size
quarter_size = record { most = 62 * 2 ^ 42 + 1; base = 2105345; per = 1370694072 }

abbrev pub inverse_size : Size
inverse_size = record { most = 35 * 2 ^ 34 + 1; base = 2097185; per = 2307038 }

-- the terms from y^2 on, divided by y; and c1, the coefficient of y
abbrev pub higher_size : Size
higher_size = record { most = 138300000000000; base = 18370000000; per = 1753000000 }

abbrev pub linear_size : Size
linear_size = record { most = 1623000000000000; base = 1280 * parts; per = 0 }

-- 1.222
abbrev pub offset_size : Size
offset_size = record { most = 88054379914347938; base = 2 * parts; per = 0 }

-- c0 - 1.222 c1, and with it the terms in 1 / y
abbrev pub constant_width : ℕ
constant_width = 6687

abbrev pub constant_size : Size
constant_size = record { most = 114 * 2 ^ 56 / 10000 + constant_width; base = constant_width * parts; per = 0 }

abbrev pub falling_size : Size
falling_size = sum_size constant_size (record { most = 897600000000000; base = 1535600000000; per = 4847400000 })

-- the terms over tau, those by y / tau, and the whole sum for the volume
abbrev pub over_tau_size : Size
over_tau_size = product_size (2 ^ 56) falling_size u_size

abbrev pub by_y_over_tau_size : Size
by_y_over_tau_size = product_size (2 ^ 56) higher_size r_size

abbrev pub joined_size : Size
joined_size = sum_size (sum_size linear_size over_tau_size) by_y_over_tau_size

abbrev pub volume_factor_size : Size
volume_factor_size = record { most = 2788472114959767; base = 2 * parts; per = 0 }

abbrev pub volume_size : Size
volume_size = product_size (2 ^ 56) joined_size volume_factor_size

-- at the scale 2^48: the whole sum for the enthalpy
abbrev pub heat_size : Size
heat_size = record { most = 6541000000000000; base = 12155000000; per = 53184000000 }

abbrev pub heat_factor_size : Size
heat_factor_size = record { most = 180052515860488039; base = 2 * parts; per = 0 }

abbrev pub enthalpy_size : Size
enthalpy_size = product_size (2 ^ 48) heat_size heat_factor_size
