mod Days
mod DigitSteps
pub mod Ordered
pub mod Rows
