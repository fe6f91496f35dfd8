pub mod Refusals
pub mod Order
pub mod Cells
pub mod Books
pub mod Props
pub mod Rolls
pub mod Totals
