pub mod Met
pub mod Named
pub mod Order
pub mod Orders
