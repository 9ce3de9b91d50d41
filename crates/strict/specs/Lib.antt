pub mod Promise
pub mod Statements
pub mod Inner
