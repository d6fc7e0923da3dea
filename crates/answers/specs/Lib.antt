pub mod Answered
pub mod Faults
pub mod Lines
pub mod Input
