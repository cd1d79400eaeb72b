pub mod Sifting
pub mod Fronts
pub mod Listings
pub mod Booked
pub mod Staying
