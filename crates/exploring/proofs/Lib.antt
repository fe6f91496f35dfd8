pub mod Born
pub mod Stacking
pub mod Explored
pub mod Stepping
pub mod Running
pub mod Rooting
pub mod Opened
