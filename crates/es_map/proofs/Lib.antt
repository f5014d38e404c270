pub mod Changes
pub mod Entries
pub mod Forks
pub mod Walks
pub mod Kept
