-- The curvature of g, minus its second derivative by tau, as terms: one for each published row.
use Rattle.std.specs.Prelude.{pos, neg_ℤ, ◌*ℤ◌, ◌-ℤ◌, map}
use Rattle.water_model.specs.Region1.{region1}
use Rattle.enclosure_sizes.specs.Size.{Size}
use Rattle.dec_tables.specs.declared.table.Term.{Term}
use Rattle.dec_tables.specs.Coefficients.{term_of}
use Rattle.dec_tables.specs.Sizes.{total_size}
use Rattle.region1_terms.specs.Monomial.{monomial_size}

-- -n * J * (J - 1) * x^I * y^(J - 2), which is 0 where J is 0 or 1
abbrev pub curvature_of : Term → Term
curvature_of t = record { i = t.i; j = t.j -ℤ pos 2; mantissa = neg_ℤ (t.j *ℤ (t.j -ℤ pos 1) *ℤ t.mantissa); exp10 = t.exp10 }

-- its size
abbrev pub curvature_size : Term → Size
curvature_size t = monomial_size (curvature_of t)

-- the size of the sum over the published rows
unfoldable pub curvature_sum_size : Size
curvature_sum_size = total_size curvature_size (map term_of region1)
