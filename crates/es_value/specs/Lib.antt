pub mod Numbers
pub mod Dates
pub mod Values
pub mod Order
pub mod Lent
