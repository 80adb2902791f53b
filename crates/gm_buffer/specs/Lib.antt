pub mod Holdings
pub mod Keys
