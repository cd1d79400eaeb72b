pub mod Faults
pub mod Named
pub mod Kinds
pub mod Held
pub mod Laws
