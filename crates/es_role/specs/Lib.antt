pub mod Values
pub mod Descriptors
pub mod Printed
pub mod Laws
