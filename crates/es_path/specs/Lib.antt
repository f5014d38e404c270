pub mod Scalars
pub mod Reached
pub mod Texts
