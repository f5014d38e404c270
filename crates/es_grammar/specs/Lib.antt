pub mod Reading
pub mod Values
pub mod Members
pub mod Grammar
pub mod Printing
pub mod Rule
