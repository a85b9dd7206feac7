-- What pulses add at the samples in force.
use Rattle.std.specs.Prelude.{◌≡◌, ℕ, ◌+◌, ◌-◌, ◌*◌, ◌≤◌, cond, pos, ◌-ℤ◌, Option, None, Some}
use Rattle.number_model.specs.Rounding.{IsWithin}
use Rattle.platinum_model.specs.Sample.{AreCellEnds}
use Rattle.metering_model.specs.Events.{Pulse}
use Rattle.metering_model.specs.Settings.{Settings}
use Rattle.metering_model.specs.Counting.{Counted, counted_by, counts, faulty_by}
use Rattle.integral_model.specs.Integral.{AddsBy, AreInCells, Fits, FitsClosely, IsNear, Temps, bound_at_points, energy_of, margin_per_litre, max_bound_per_litre}
use Rattle.energy_register.specs.declared.Step.{Step}
use Rattle.pt_curve.specs.Curve.{element}
use Rattle.meter_parts.specs.Views.{place_view}
use Rattle.pulse_integrator.specs.declared.origin.Origin.{Origin}
use Rattle.pulse_integrator.specs.declared.per_litre.PerLitre.{PerLitre}

-- a rate's origin is that of a meter with these settings while these samples are in force
abbrev pub AreInForce : Settings → Option (ℕ × ℕ) → Option Origin → Type 0
AreInForce c samples None = samples ≡ None
AreInForce c samples (Some o) =
    (samples ≡ Some (o.rf, o.rr)) × (c.pressure_kpa ≡ o.p_kpa) × (c.place ≡ place_view o.place)
    × (c.flow ≡ element o.pair.flow) × (c.ret ≡ element o.pair.ret)

-- The step of n pulses at these samples: where they count, the energy and its bound fit closely, else both are 0, and
-- the pulses are faulty where a sample is out of range.
pub record IsStep (c : Settings) (samples : Option (ℕ × ℕ)) (n : ℕ) (s : Step) : Type 0 where
  pub fits : AddsBy (FitsClosely c) (counted_by c samples (Pulse n)) s.e_mj s.b_mj
  pub faulty : s.faulty ≡ faulty_by c samples n

-- what n pulses add, whatever the meter with this origin is
pub record AddsPulses (per_pulse : ℕ) (origin : Option Origin) (n : ℕ) (s : Step) : Type 0 where
  pub step : (c : Settings) (samples : Option (ℕ × ℕ)) → c.litres_per_pulse ≡ per_pulse → AreInForce c samples origin → IsStep c samples n s
  pub size : IsWithin (2000000000 * (n * per_pulse)) s.e_mj
  pub bound : s.b_mj ≤ max_bound_per_litre * (n * per_pulse)
  pub few : s.faulty ≤ n

-- a litre at these samples
abbrev pub litre_by : Settings → Option (ℕ × ℕ) → Option Counted
litre_by c None = None
litre_by c (Some s) = cond (counts c s.0 s.1) (Some (record { flow = s.0; ret = s.1; litres = 1 })) None

-- a litre that counts fits closely, with its cells
pub record FitsLitre (c : Settings) (k : Counted) (l : PerLitre) : Type 0 where
  pub fits : Fits c k l.e_mj l.b_mj
  pub nearer : (t : Temps) → AreInCells c k t → IsNear l.e_mj (pos l.b_mj -ℤ pos (margin_per_litre * k.litres)) (energy_of c k t)
  pub flow_ends : AreCellEnds c.flow k.flow l.flow.lo l.flow.hi
  pub return_ends : AreCellEnds c.ret k.ret l.ret.lo l.ret.hi
  pub closer : 15 * l.b_mj ≤ k.litres * (bound_at_points + (l.flow.hi - l.flow.lo) + (l.ret.hi - l.ret.lo))

-- what a litre adds, whatever the meter with this origin is
pub record AddsLitre (origin : Option Origin) (l : PerLitre) : Type 0 where
  pub counted : (c : Settings) (samples : Option (ℕ × ℕ)) (k : Counted) → AreInForce c samples origin → litre_by c samples ≡ Some k → FitsLitre c k l
  pub uncounted : (c : Settings) (samples : Option (ℕ × ℕ)) → AreInForce c samples origin → litre_by c samples ≡ None → (l.e_mj ≡ pos 0) × (l.b_mj ≡ 0)
  pub faulty : (c : Settings) (samples : Option (ℕ × ℕ)) → AreInForce c samples origin → cond l.faulty 1 0 ≡ faulty_by c samples 1
  pub size : IsWithin 2000000000 l.e_mj
  pub bound : l.b_mj ≤ max_bound_per_litre
