pub mod Calls
pub mod Book
pub mod Bookings
pub mod Sheet
pub mod History
pub mod Answered
pub mod Wrong
pub mod Tried
