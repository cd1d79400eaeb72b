pub mod Kept
mod Zero
mod Entries
mod Formed
mod Lines
mod Faultless
mod Viewed
mod Said
pub mod Sound
mod Steps
