pub mod Prices
pub mod Sums
pub mod Rows
pub mod Walks
pub mod Calls
