pub mod Pieces
pub mod PiecesRules
pub mod Lines
