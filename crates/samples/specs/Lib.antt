pub mod Computed
pub mod Refusals
pub mod Further
