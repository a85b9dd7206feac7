pub mod FittingCurve
pub mod Tests
pub mod Bisection
pub mod CellEnds
