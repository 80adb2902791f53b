pub mod ShareLemmas
pub mod Totals
pub mod Flow
