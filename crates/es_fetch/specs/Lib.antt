pub mod Mapped
pub mod Permitted
pub mod Laws
