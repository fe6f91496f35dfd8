pub mod Settled
pub mod Waiting
pub mod Meaning
