pub mod Lines
pub mod Output
pub mod Drill
pub mod Drilled
pub mod Keeping
pub mod Laws
