pub mod FileList
pub mod Memory
pub mod Notes
