pub mod Offsets
pub mod FormatMoments
pub mod StoreMoments
pub mod CommitMoments
pub mod MemoryAlone
pub mod Standing
