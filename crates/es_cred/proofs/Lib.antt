pub mod Differing
pub mod Laws
pub mod Order
pub mod Spelling
pub mod Texts
