pub mod Numbers
mod Columns
pub mod Rendered
pub mod Passes
pub mod Cuts
