pub mod CallerLemmas
pub mod Dropping
pub mod Selecting
