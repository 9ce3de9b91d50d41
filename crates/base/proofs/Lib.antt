pub mod Bools
pub mod Lists
pub mod Keys
pub mod Numbered
