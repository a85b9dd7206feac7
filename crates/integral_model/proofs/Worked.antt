-- The exact energy of two events, worked by fractions.
use Rattle.std.proofs.Common.{◌≡◌, ℕ, lit≤, List, [], ◌∷◌, pos, refl}
use lib.Signed.{le_z_yes}
use Rattle.number_model.specs.Fraction.{whole, power}
use Rattle.platinum_model.proofs.Worked.{in_cell, in_cell_60}
use Rattle.water_model.specs.Decimal.{whole_power}
use Rattle.water_model.specs.Region1.{region1}
use Rattle.water_model.specs.Water.{sum_over, volume, enthalpy}
use Rattle.heat_model.specs.Heat.{litre_energy, LiesBetween}
use Rattle.metering_model.specs.Events.{Sample, Pulse, Kept}
use Rattle.metering_model.specs.Records.{opening_record, energy_in}
use Rattle.metering_model.proofs.Worked.{settings, kept, plain, counts_60}
use Rattle.integral_model.specs.Integral.{Temps, IsChoice, exact_integral, counted_litres, IsBounded, IsNear}

-- ---- the exact energy of 1,000 and of 10 litres between 60 and 50 °C

abbrev events : List Kept
events = plain (Sample 616209500 596985625) ∷ kept (Pulse 100) (pos 41303818000) 1500 ∷ kept (Pulse 1) (pos 413038181) 20 ∷ []

abbrev choice : ℕ → Temps
choice n = record { flow = whole 60; ret = whole 50 }

is_choice : IsChoice settings (opening_record 8780) choice events
is_choice = rw counts_60 (tt, (record { flow = in_cell_60; ret = in_cell }, (record { flow = in_cell_60; ret = in_cell }, tt)))

litres : counted_litres settings (opening_record 8780) events ≡ 1010
litres = rw counts_60 refl

-- 1,010 litres give off 41,716,856,330.79 mJ
energy : LiesBetween (pos 41716856330) (pos 41716856331) (exact_integral settings (opening_record 8780) choice events)
unfolding litre_energy volume enthalpy sum_over region1 power whole_power
energy = rw counts_60 (record { low = record { crossed = le_z_yes tt }; high = record { crossed = le_z_yes tt } })

-- the energies that were kept are 149.79 mJ less: within a bound of 150 mJ, and not within one of 149 mJ
bounded : IsBounded settings (opening_record 8780) choice events
unfolding litre_energy volume enthalpy sum_over region1 power whole_power
bounded = record { near = rw counts_60 (record { low = record { crossed = le_z_yes tt }; high = record { crossed = le_z_yes tt } }); cap = rw counts_60 (lit≤ tt) }

near_150 : IsNear (energy_in events) (pos 150) (exact_integral settings (opening_record 8780) choice events)
unfolding litre_energy volume enthalpy sum_over region1 power whole_power
near_150 = rw counts_60 (record { low = record { crossed = le_z_yes tt }; high = record { crossed = le_z_yes tt } })

not_near_149 : IsNear (energy_in events) (pos 149) (exact_integral settings (opening_record 8780) choice events) → ⊥
unfolding litre_energy volume enthalpy sum_over region1 power whole_power
not_near_149 = rw counts_60 (λ near. near.high.crossed.le)
