pub mod Refusals
pub mod Order
pub mod Laws
pub mod Alike
