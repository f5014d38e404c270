pub mod Links
pub mod Listens
pub mod Memory
pub mod Tcp
