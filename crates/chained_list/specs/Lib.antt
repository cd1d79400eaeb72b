pub mod Links
pub mod Tags
pub mod Chain
pub mod Spreading
pub mod Contents
pub mod Tried
