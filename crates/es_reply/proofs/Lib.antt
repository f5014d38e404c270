pub mod Strings
pub mod Mappings
