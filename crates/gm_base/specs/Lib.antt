pub mod Graph
pub mod GraphRules
pub mod Dimensions
pub mod DimensionsRules
pub mod Numbers
pub mod Names
pub mod Examples
pub mod ChunkCounts
