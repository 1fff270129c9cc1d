pub mod Faults
pub mod Places
pub mod Maps
pub mod Eight
pub mod Sets
pub mod Common
