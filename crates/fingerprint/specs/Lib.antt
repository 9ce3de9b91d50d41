pub mod Fnv
pub mod Table
pub mod Statements
