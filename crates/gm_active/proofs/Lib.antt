pub mod Bits
pub mod Marks
pub mod Counting
pub mod Searching
pub mod Added
