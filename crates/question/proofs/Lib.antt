pub mod Agreeing
pub mod Asked
pub mod Begins
pub mod Laying
pub mod Sizes
pub mod Writing
