pub mod Marks
pub mod Tags
pub mod Sources
pub mod Printed
pub mod Filling
pub mod Laws
