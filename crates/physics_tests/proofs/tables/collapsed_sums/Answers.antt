use Rattle.std.proofs.Common.{lit<, lit≤, refl, pos}
use lib.Signed.{le_z_yes}
use Rattle.number_model.specs.Enclosure.{Holds}
use Rattle.water_model.specs.Water.{x_of}
use Rattle.table_model.specs.Tables.{eighth_of}
use Rattle.physics_tests.proofs.tables.collapsed_sums.Goals as goal

held : Holds 56 (pos 63079274490416301) (pos 63079274490416302) (eighth_of (x_of 1600))
held = record { low = record { crossed = le_z_yes tt }; high = record { crossed = le_z_yes tt } }

pub collapse-volume_up-requires : goal.collapse-volume_up-requires
collapse-volume_up-requires g c =
    (lit< tt, (c.region1_table-table.ensures, (refl, (refl, (rw (c.of_ends-x.ensures.lo, c.of_ends-x.ensures.hi) (le_z_yes tt), (1600, lit≤ tt, lit≤ tt, rw (c.of_ends-x.ensures.lo, c.of_ends-x.ensures.hi) held))))))

pub collapse-volume_down-requires : goal.collapse-volume_down-requires
collapse-volume_down-requires g c =
    (lit< tt, (c.region1_table-table.ensures, (refl, (refl, (rw (c.of_ends-x.ensures.lo, c.of_ends-x.ensures.hi) (le_z_yes tt), (1600, lit≤ tt, lit≤ tt, rw (c.of_ends-x.ensures.lo, c.of_ends-x.ensures.hi) held))))))

pub collapse-heat_up-requires : goal.collapse-heat_up-requires
collapse-heat_up-requires g c =
    (lit< tt, (c.region1_table-table.ensures, (refl, (refl, (rw (c.of_ends-x.ensures.lo, c.of_ends-x.ensures.hi) (le_z_yes tt), (1600, lit≤ tt, lit≤ tt, rw (c.of_ends-x.ensures.lo, c.of_ends-x.ensures.hi) held))))))

pub collapse-heat_down-requires : goal.collapse-heat_down-requires
collapse-heat_down-requires g c =
    (lit< tt, (c.region1_table-table.ensures, (refl, (refl, (rw (c.of_ends-x.ensures.lo, c.of_ends-x.ensures.hi) (le_z_yes tt), (1600, lit≤ tt, lit≤ tt, rw (c.of_ends-x.ensures.lo, c.of_ends-x.ensures.hi) held))))))
