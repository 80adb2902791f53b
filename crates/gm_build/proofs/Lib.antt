pub mod Groups
pub mod Scatter
pub mod Counting
pub mod Writing
pub mod Below
pub mod Making
pub mod Graphs
pub mod Made
