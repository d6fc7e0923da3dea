pub mod Verbs
pub mod Commands
pub mod Pairs
pub mod Untakens
