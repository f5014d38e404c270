pub mod Folds
pub mod Standing
pub mod SearchEnds
pub mod Alike
