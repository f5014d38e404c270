pub mod Fills
pub mod Framing
pub mod Gathers
pub mod Looks
pub mod Next
pub mod Requests
pub mod Times
