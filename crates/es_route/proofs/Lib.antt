pub mod Clearing
pub mod Cutting
pub mod Slashes
pub mod Steps
pub mod Tables
pub mod Texts
