pub mod Reads
pub mod Answer
pub mod Due
pub mod Steps
pub mod Job
pub mod Codes
pub mod Core
