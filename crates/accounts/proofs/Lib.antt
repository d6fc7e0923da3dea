pub mod Positions
pub mod InPlace
pub mod Phases
pub mod Accepted
