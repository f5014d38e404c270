pub mod Projection
pub mod Laws
pub mod Trails
