pub mod Sources
pub mod Noting
pub mod Overlaying
pub mod Copying
