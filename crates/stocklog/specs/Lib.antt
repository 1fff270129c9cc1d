pub mod Entry
pub mod Items
pub mod Numbers
pub mod Replies
