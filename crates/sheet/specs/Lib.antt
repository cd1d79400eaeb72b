pub mod Refusals
pub mod Shows
pub mod Answers
pub mod Making
