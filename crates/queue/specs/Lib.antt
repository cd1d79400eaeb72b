pub mod Heaps
pub mod Listing
pub mod Order
pub mod Refusals
pub mod Sooner
pub mod Stale
pub mod Waiting
