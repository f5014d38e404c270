pub mod Changed
pub mod Deciding
pub mod Lasting
pub mod Standing
pub mod Star
pub mod Walked
