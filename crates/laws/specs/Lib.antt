pub mod Good
pub mod Ruled
pub mod FirstWriting
pub mod OldTold
