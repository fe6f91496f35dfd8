pub mod Sets
pub mod Spaces
pub mod Trace
pub mod Advance
pub mod Crossed
pub mod Orders
pub mod Crossings
pub mod Statements
