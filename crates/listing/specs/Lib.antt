pub mod Exact
pub mod Listing
pub mod Text
pub mod Walk
