pub mod Targets
pub mod Rows
pub mod Refusals
pub mod Reading
pub mod Stops
pub mod Paths
