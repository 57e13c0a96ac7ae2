pub mod Sought
pub mod Ways
