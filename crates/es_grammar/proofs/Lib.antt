pub mod Dots
pub mod Fronts
pub mod Back
pub mod Ruled
