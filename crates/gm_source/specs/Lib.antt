pub mod Openings
pub mod OpeningReads
pub mod OpeningsRules
pub mod Fetches
pub mod FetchesRules
