mod Printed
mod Back
mod Digits
pub mod Timely
