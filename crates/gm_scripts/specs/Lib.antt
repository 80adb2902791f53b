pub mod ScriptJobs
pub mod BelowRules
pub mod ScriptJobsRules
pub mod Examples
