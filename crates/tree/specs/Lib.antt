pub mod Form
pub mod Digits
pub mod Tree
pub mod Search
pub mod Growth
pub mod Put
pub mod Kept
