use Rattle.std.proofs.Common.{arith, lit<, refl}
use Rattle.water_model.specs.Water.{x_of}
use Rattle.if97_region1.proofs.water.tables_at.Goals as goal

pub collapse-requires : goal.collapse-requires
collapse-requires c = (lit< tt, (c.region1_table-rows.ensures, (refl, (refl, (c.x_eighth-x.ensures.width, (c.args.p, c.requires.low, c.requires.high, c.x_eighth-x.ensures.holds))))))

pub collapse-requires-2 : goal.collapse-requires-2
collapse-requires-2 c = (lit< tt, (c.region1_table-rows.ensures, (refl, (refl, (c.x_eighth-x.ensures.width, (c.args.p, c.requires.low, c.requires.high, c.x_eighth-x.ensures.holds))))))

pub collapse-requires-3 : goal.collapse-requires-3
collapse-requires-3 c = (lit< tt, (c.region1_table-rows.ensures, (refl, (refl, (c.x_eighth-x.ensures.width, (c.args.p, c.requires.low, c.requires.high, c.x_eighth-x.ensures.holds))))))

pub collapse-requires-4 : goal.collapse-requires-4
collapse-requires-4 c = (lit< tt, (c.region1_table-rows.ensures, (refl, (refl, (c.x_eighth-x.ensures.width, (c.args.p, c.requires.low, c.requires.high, c.x_eighth-x.ensures.holds))))))

pub returns : goal.returns
returns c =
    let x = x_of c.args.p in
    let held = c.x_eighth-x.ensures.holds in
    record {
      volume_up = record { holds = c.collapse.ensures.holds x held; widths = c.collapse.ensures.widths; sized = c.collapse.ensures.sized; count = omega arith; total = c.collapse.ensures.total };
      volume_down = record { holds = c.collapse-2.ensures.holds x held; widths = c.collapse-2.ensures.widths; sized = c.collapse-2.ensures.sized; count = omega arith; total = c.collapse-2.ensures.total };
      heat_up = record { holds = c.collapse-3.ensures.holds x held; widths = c.collapse-3.ensures.widths; sized = c.collapse-3.ensures.sized; count = omega arith; total = c.collapse-3.ensures.total };
      heat_down = record { holds = c.collapse-4.ensures.holds x held; widths = c.collapse-4.ensures.widths; sized = c.collapse-4.ensures.sized; count = omega arith; total = c.collapse-4.ensures.total };
    }
