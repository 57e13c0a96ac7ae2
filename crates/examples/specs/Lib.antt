pub mod Writing
pub mod Sheets
pub mod Runs
pub mod Worked
