pub mod Givens
pub mod Naming
pub mod Stepping
pub mod Writes
