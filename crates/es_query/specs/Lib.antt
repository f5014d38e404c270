pub mod Queries
pub mod Printed
pub mod Sound
pub mod Laws
