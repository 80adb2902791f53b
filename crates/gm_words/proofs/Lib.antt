pub mod Names
pub mod Parses
pub mod Walks
