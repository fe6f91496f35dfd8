pub mod Table
pub mod Standing
pub mod Frames
