pub mod Eight
pub mod Outcomes
