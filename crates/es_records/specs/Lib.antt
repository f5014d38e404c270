pub mod Records
pub mod Codes
pub mod Changes
pub mod Halves
pub mod Keys
pub mod Laws
pub mod Views
pub mod Found
