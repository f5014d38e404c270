pub mod Calls
pub mod Causes
pub mod Draws
pub mod Listed
pub mod Memory
pub mod Moves
pub mod Sends
pub mod Std
