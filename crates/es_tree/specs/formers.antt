pub mod ordered
