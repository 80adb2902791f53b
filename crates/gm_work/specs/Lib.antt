pub mod JobStates
pub mod Views
pub mod Weights
pub mod HeldJobs
pub mod ViewsRules
pub mod Stored
pub mod Steps
pub mod Examples
