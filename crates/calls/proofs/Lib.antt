pub mod Held
pub mod Back
