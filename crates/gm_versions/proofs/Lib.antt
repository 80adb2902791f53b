pub mod HistorySteps
pub mod Noting
pub mod Answering
