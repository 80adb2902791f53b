pub mod RunReadings
pub mod RunReports
pub mod RunEndings
pub mod Promises
