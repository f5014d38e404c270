pub mod Paths
pub mod Mappings
pub mod Checking
pub mod Below
pub mod Printed
pub mod Possible
