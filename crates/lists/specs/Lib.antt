pub mod Held
pub mod Rest
