pub mod Growing
pub mod Adding
