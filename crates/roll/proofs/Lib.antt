pub mod Puts
pub mod Firsts
pub mod Moves
pub mod Calls
pub mod Orders
pub mod Sums
pub mod Premises
pub mod Same
