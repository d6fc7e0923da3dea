pub mod EdgeCases
pub mod Made
