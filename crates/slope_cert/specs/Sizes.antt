-- The sizes of the parts of a slope.
use Rattle.std.specs.Prelude.{◌*◌, ◌^◌}
use Rattle.enclosure_sizes.specs.Size.{Size, parts, product_size, down_size}
use Rattle.slope_cert.specs.Curvature.{curvature_sum_size}

-- tau at 0 °C, and its greatest fall: two roundings and 1386 / T²
abbrev pub tau_size : Size
tau_size = record { most = 365629966452748012; base = 2 * parts; per = 1403590729282 }

-- R
abbrev pub gas_constant_size : Size
gas_constant_size = record { most = 33256453145948729; base = 2 * parts; per = 0 }

-- R tau1 tau2
unfoldable pub factor_size : Size
factor_size = product_size (2 ^ 56) (product_size (2 ^ 56) gas_constant_size tau_size) tau_size

-- at the scale 2^48
unfoldable pub slope_size : Size
slope_size = product_size (2 ^ 48) (down_size (2 ^ 8) curvature_sum_size) (down_size (2 ^ 8) factor_size)
