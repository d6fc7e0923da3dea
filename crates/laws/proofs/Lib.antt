pub mod Keys
pub mod Tighter
pub mod Exchange
pub mod Milliseconds
pub mod Compared
pub mod Examples
pub mod Listing
