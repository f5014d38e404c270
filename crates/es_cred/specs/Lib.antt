pub mod Digest
pub mod Credentials
pub mod Names
pub mod Users
