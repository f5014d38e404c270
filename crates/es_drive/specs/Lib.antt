pub mod Answer
pub mod Turns
pub mod Alone
pub mod Serving
pub mod Laws
pub mod Hits
pub mod Tallies
