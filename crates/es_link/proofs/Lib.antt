pub mod Sides
pub mod Coming
