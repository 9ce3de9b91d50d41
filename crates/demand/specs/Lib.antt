pub mod Isa
pub mod Machine
pub mod History
pub mod Calls
pub mod World
pub mod Demand
pub mod Refused
pub mod Prefixes
