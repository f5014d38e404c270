pub mod Bytes
pub mod Ids
pub mod Lasting
pub mod Names
pub mod Plain
pub mod Sent
pub mod Strings
