pub mod Fronts
mod Informing
mod OpeningGrids
