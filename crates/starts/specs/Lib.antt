pub mod Stops
pub mod Counted
