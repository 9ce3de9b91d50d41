pub mod Hashing
pub mod Tabled
pub mod Computed
pub mod Telling
pub mod Numbers
pub mod Undoing
pub mod Wrapping
