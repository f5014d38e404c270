pub mod Counting
mod Only
mod Rereading
pub mod Rechecked
pub mod Permitted
