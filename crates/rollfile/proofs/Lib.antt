pub mod Overs
pub mod Runs
mod Digits
mod Trips
