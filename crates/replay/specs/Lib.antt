pub mod States
pub mod Scripts
pub mod Steps
pub mod Replays
