pub mod Patterns
pub mod Fields
