pub mod Growing
pub mod Counting
pub mod Running
pub mod Stepping
pub mod Alike
