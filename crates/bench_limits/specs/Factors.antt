-- The calculator's limits, at the temperature difference D with the least difference m.
use Rattle.std.specs.Prelude.{ℕ, ◌+◌, ◌*◌, ℤ, pos, ◌-ℤ◌}

-- 1 - (0.5 + m / D) %, times 200 D
abbrev pub least_factor : (m D : ℕ) → ℤ
least_factor m D = pos (199 * D) -ℤ pos (2 * m)

-- 1 + (0.5 + m / D) %, times 200 D
abbrev pub most_factor : (m D : ℕ) → ℤ
most_factor m D = pos (201 * D + 2 * m)
