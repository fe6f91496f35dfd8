pub mod Entries
pub mod Books
pub mod Reachable
pub mod Rolls
