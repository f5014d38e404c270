pub mod Segments
pub mod Laws
pub mod Forms
