pub mod Names
pub mod Bodies
pub mod Laws
pub mod Keys
pub mod Requests
pub mod Needs
