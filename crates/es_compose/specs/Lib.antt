pub mod Roles
pub mod Sets
pub mod Checked
pub mod Permissions
pub mod Laws
pub mod Ready
