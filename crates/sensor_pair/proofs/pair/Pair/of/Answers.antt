use Rattle.sensor_pair.proofs.Calibrations.{ret_fits}
use Rattle.sensor_pair.proofs.pair.Pair.of.Goals as goal

pub calibrated-requires-in-Some : goal.calibrated-requires-in-Some
calibrated-requires-in-Some c =
    ret_fits c.args.sensor c.args.cal c.in-Some.flow c.in-Some.ret c.requires.fits c.in-Some.is
