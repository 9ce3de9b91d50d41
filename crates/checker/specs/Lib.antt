pub mod Cells
pub mod Promise
pub mod Reasons
pub mod Paths
pub mod Inner
pub mod Statements
