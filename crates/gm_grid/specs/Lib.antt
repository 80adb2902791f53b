pub mod Format
pub mod GridBytes
pub mod GridBytesRules
pub mod GridRefusals
pub mod GridRefusalsRules
pub mod SmallGrids
