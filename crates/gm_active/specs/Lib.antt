pub mod Adding
pub mod Bits
pub mod BitsRules
pub mod Examples
pub mod Needs
pub mod NeedsRules
pub mod Words
