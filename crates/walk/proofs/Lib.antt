pub mod Again
pub mod Called
pub mod Locals
pub mod Tested
