pub mod Left
pub mod Granted
pub mod Rising
pub mod Seen
