pub mod Trace
pub mod Output
pub mod Images
pub mod Moments
