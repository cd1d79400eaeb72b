pub mod Journal
pub mod Verdicts
pub mod Answers
pub mod Cut
