pub mod Runs
pub mod Tighter
pub mod Exchange
pub mod Milliseconds
pub mod Laws
pub mod Examples
pub mod Listing
