-- What a curve stands for.
use Rattle.platinum_model.specs.Element.{Element}
use Rattle.pt_curve.specs.declared.curve.Curve.{Curve}

abbrev pub element : Curve → Element
element c = record { r0_uohm = c.r0_uohm; a_e10 = c.a_e10; b_e10 = c.b_e10 }
