pub mod Bounds
pub mod Entries
pub mod ScriptBounds
pub mod TakenNames
pub mod Tallies
