pub mod Texts
pub mod Replies
pub mod Standings
