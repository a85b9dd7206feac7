-- What one pulse adds, and many pulses.
use Rattle.std.specs.Prelude.{ℕ, ◌*◌, pos, ◌*ℤ◌, cond}
use Rattle.energy_register.specs.declared.Step.{Step}
use Rattle.pulse_integrator.specs.declared.rate.Rate.{Rate}

-- the step of one pulse: the energy and the bound of its litres, and whether it is faulty
abbrev pub unit_of : Rate → Step
unit_of r = record {
  e_mj = pos r.per_pulse *ℤ r.litre.e_mj;
  b_mj = r.per_pulse * r.litre.b_mj;
  faulty = cond r.litre.faulty 1 0;
}

-- n times a step, field by field
abbrev pub times : ℕ → Step → Step
times n s = record { e_mj = pos n *ℤ s.e_mj; b_mj = n * s.b_mj; faulty = n * s.faulty }
