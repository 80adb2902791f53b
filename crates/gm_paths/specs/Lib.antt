pub mod PathJobs
