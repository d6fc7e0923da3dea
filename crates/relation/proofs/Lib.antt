pub mod Rearranging
pub mod Same
