pub mod Decimals
mod Worked
