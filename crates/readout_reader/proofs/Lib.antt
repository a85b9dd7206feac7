mod Onwards
mod Wholes
mod Written
mod Entering
mod Same
mod Sized
