-- The heat of a litre of water at 1,600 kPa between 60 °C and 50 °C, worked by fractions.
use Rattle.std.proofs.Common.{pos, negsuc}
use lib.Signed.{le_z_yes}
use Rattle.number_model.specs.Fraction.{◌≤ℚ◌, whole, power}
use Rattle.water_model.specs.Decimal.{minus, decimal, whole_power}
use Rattle.water_model.specs.Region1.{region1}
use Rattle.water_model.specs.Water.{sum_over, volume, enthalpy}
use Rattle.heat_model.specs.Heat.{litre_energy, heat_coefficient, LiesBetween}
use Rattle.parts_model.specs.Place.{Flow, Return}

-- 41,303,818.149 mJ where the sensor sits in the return, and 41,101,816.00003 mJ where it sits in the flow
metered_in_return : LiesBetween (pos 41303818) (pos 41303819) (litre_energy 1600 Return (whole 60) (whole 50))
unfolding litre_energy heat_coefficient volume enthalpy sum_over region1 power whole_power
metered_in_return = record { low = record { crossed = le_z_yes tt }; high = record { crossed = le_z_yes tt } }

metered_in_flow : LiesBetween (pos 41101816) (pos 41101817) (litre_energy 1600 Flow (whole 60) (whole 50))
unfolding litre_energy heat_coefficient volume enthalpy sum_over region1 power whole_power
metered_in_flow = record { low = record { crossed = le_z_yes tt }; high = record { crossed = le_z_yes tt } }

-- where the return is the warmer one the energy is below 0, and where both are alike it is 0
cooling : LiesBetween (negsuc 41101816) (negsuc 41101815) (litre_energy 1600 Return (whole 50) (whole 60))
unfolding litre_energy heat_coefficient volume enthalpy sum_over region1 power whole_power
cooling = record { low = record { crossed = le_z_yes tt }; high = record { crossed = le_z_yes tt } }

alike : LiesBetween (pos 0) (pos 0) (litre_energy 1600 Return (whole 50) (whole 50))
unfolding litre_energy heat_coefficient volume enthalpy sum_over region1 power whole_power
alike = record { low = record { crossed = le_z_yes tt }; high = record { crossed = le_z_yes tt } }

-- 4,130.381814 and 4,110.181600 kJ/(m³ K)
coefficient_in_return : (decimal (pos 4130381814) (minus 6) ≤ℚ heat_coefficient 1600 Return (whole 60) (whole 50)) × (heat_coefficient 1600 Return (whole 60) (whole 50) ≤ℚ decimal (pos 4130381815) (minus 6))
unfolding litre_energy heat_coefficient volume enthalpy sum_over region1 power whole_power
coefficient_in_return = (record { crossed = le_z_yes tt }, record { crossed = le_z_yes tt })

coefficient_in_flow : (decimal (pos 4110181600) (minus 6) ≤ℚ heat_coefficient 1600 Flow (whole 60) (whole 50)) × (heat_coefficient 1600 Flow (whole 60) (whole 50) ≤ℚ decimal (pos 4110181601) (minus 6))
unfolding litre_energy heat_coefficient volume enthalpy sum_over region1 power whole_power
coefficient_in_flow = (record { crossed = le_z_yes tt }, record { crossed = le_z_yes tt })
