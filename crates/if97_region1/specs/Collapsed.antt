-- What the tables of coefficients of water at one pressure hold.
use Rattle.std.specs.Prelude.{◌≡◌, ℕ, ◌^◌, ◌≤◌, List, length}
use Rattle.std.specs.List.{sum_by}
use Rattle.number_model.specs.Fraction.{Fraction}
use Rattle.interval_num.specs.declared.enc.Enc.{Enc}
use Rattle.dec_tables.specs.declared.part.Part.{Part}
use Rattle.dec_tables.specs.declared.part.Part.TheVariants.{VolumeUp, VolumeDown, HeatUp, HeatDown}
use Rattle.dec_tables.specs.Parts.{count_of, part_coefficient, width_of}
use Rattle.dec_tables.specs.Polynomials.{HoldsEach, WidthEach, SizedEach, magnitude}
use Rattle.dec_tables.specs.Sizes.{coefficient_size}
use Rattle.if97_region1.specs.declared.polys.Polys.{Polys}

-- the coefficients of a part: each holds its sum over the rows at x, and is as narrow as its part demands
pub record HoldsPart (s : ℕ) (part : Part) (x : Fraction) (coef : List (Enc s)) : Type 0 where
  pub holds : HoldsEach s coef (part_coefficient part x)
  pub widths : WidthEach s coef (width_of part)
  pub sized : SizedEach s coef (coefficient_size part)
  pub count : length coef ≡ count_of part
  pub total : sum_by magnitude coef ≤ 2 ^ 59

pub record HoldsParts (x : Fraction) (t : Polys) : Type 0 where
  pub volume_up : HoldsPart 48 VolumeUp x t.volume_up.coef
  pub volume_down : HoldsPart 40 VolumeDown x t.volume_down.coef
  pub heat_up : HoldsPart 48 HeatUp x t.heat_up.coef
  pub heat_down : HoldsPart 40 HeatDown x t.heat_down.coef
