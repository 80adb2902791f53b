pub mod Failures
pub mod StandardError
pub mod Readings
pub mod ReadingsRules
pub mod Endings
pub mod EndingsRules
