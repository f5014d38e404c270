pub mod Node
pub mod Legal
pub mod State
pub mod Ending
pub mod Session
