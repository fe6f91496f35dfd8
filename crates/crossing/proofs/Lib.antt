pub mod Shadows
pub mod Totals
pub mod Falling
pub mod Casting
pub mod Chains
pub mod Passing
pub mod Starting
pub mod Accepting
