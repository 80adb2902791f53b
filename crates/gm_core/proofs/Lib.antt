pub mod SnapshotGraphs
pub mod Lawful
pub mod ScriptLaws
