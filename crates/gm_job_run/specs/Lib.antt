pub mod JobRuns
pub mod JobLines
pub mod SeenViews
