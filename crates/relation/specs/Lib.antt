pub mod Related
pub mod Texts
