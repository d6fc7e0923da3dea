pub mod Exchanges
pub mod Rules
pub mod Ends
