pub mod Compared
pub mod Seen
pub mod Holds
pub mod Asked
pub mod Ready
