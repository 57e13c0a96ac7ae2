pub mod Exchanging
pub mod InRuns
