pub mod Lists
pub mod Twins
