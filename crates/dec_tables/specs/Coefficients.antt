-- The coefficients that terms stand for, and the published rows as terms.
use Rattle.number_model.specs.Fraction.{Fraction}
use Rattle.water_model.specs.Decimal.{decimal}
use Rattle.water_model.specs.Region1.{Row}
use Rattle.dec_tables.specs.declared.table.Term.{Term}

-- mantissa * 10^exp10
abbrev pub coefficient_of : Term → Fraction
coefficient_of t = decimal t.mantissa t.exp10

-- a published row without its number
abbrev pub term_of : Row → Term
term_of r = record { i = r.i; j = r.j; mantissa = r.mantissa; exp10 = r.exp10 }
