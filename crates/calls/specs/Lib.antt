pub mod State
pub mod Exports
pub mod Back
pub mod Inner
