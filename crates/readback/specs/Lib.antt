pub mod Operands
pub mod Formed
pub mod Reading
pub mod Promise
pub mod Inner
pub mod Lined
