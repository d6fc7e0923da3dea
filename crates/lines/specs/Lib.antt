pub mod Ends
pub mod Numbers
pub mod Words
pub mod Unreadables
pub mod Asked
