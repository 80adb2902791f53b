pub mod Ranges
pub mod Ascending
pub mod Runs
pub mod Sorting
pub mod Tables
pub mod Stretches
pub mod Labelled
pub mod Setting
