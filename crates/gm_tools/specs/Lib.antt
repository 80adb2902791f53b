pub mod EdgeReadings
pub mod Builds
pub mod Grids
pub mod Infos
pub mod Tools
pub mod ToolsRules
