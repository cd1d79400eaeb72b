mod Chains
mod Linking
pub mod Lists
mod Ties
mod Steps
mod Shapes
pub mod Runs
mod Goes
pub mod Zeroed
pub mod Vacancy
mod Mains
