pub mod EdgeText
pub mod EdgeErrors
pub mod LineStates
pub mod ReaderStates
