pub mod Loading
pub mod Running
pub mod Counting
pub mod Unread
