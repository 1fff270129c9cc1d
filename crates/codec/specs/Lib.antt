pub mod Cells
pub mod Marks
pub mod Table
pub mod Same
pub mod Eight
pub mod Options
pub mod Counted
