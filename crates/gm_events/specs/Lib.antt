pub mod Examples
pub mod Journals
