pub mod Calibrations
