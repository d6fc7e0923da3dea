pub mod Counting
pub mod Endings
pub mod Readings
