mod Stopping
pub mod Counting
