pub mod RefusedReaders
pub mod LinesByByte
pub mod TextsByByte
pub mod ListedGraphs
pub mod ReaderAnswers
