pub mod Joins
pub mod Fills
