mod Agrees
mod Least
mod Whole
pub mod Over
