pub mod Steady
mod Worked
