pub mod OwnChanges
pub mod SeenChunks
