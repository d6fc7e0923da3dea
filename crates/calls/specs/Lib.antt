pub mod Answers
pub mod Keys
pub mod Calendar
pub mod Phases
pub mod Calls
