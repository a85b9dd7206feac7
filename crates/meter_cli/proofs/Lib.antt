pub mod Certs
pub mod Events
pub mod Further
pub mod Inits
pub mod Keys
pub mod Lines
pub mod Readings
pub mod Shows
