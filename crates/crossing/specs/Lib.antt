pub mod Asking
pub mod Ranks
pub mod Meaning
pub mod Beginning
