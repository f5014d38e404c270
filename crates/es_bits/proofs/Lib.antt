pub mod Truths
pub mod Word
pub mod Held
pub mod Kept
pub mod Found
pub mod Laws
