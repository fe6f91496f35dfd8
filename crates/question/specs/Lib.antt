pub mod Asking
pub mod Beginning
pub mod Filling
pub mod Worked
