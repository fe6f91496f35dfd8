pub mod Kept
pub mod Reached
pub mod Same
