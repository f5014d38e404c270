pub mod Keys
pub mod Subjects
pub mod Halves
pub mod Printed
pub mod Laws
