pub mod FieldBytes
pub mod RangeTests
pub mod BlockCuts
pub mod GridReadings
