pub mod Values
pub mod Claims
pub mod Order
pub mod Headers
pub mod ReadSets
pub mod Owed
pub mod Prices
