pub mod Args
pub mod Values
pub mod Readers
pub mod Shown
pub mod Told
