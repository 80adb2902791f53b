pub mod SnapshotViews
pub mod ScriptWorks
pub mod ScriptCases
pub mod Examples
