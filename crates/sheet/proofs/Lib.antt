pub mod InRuns
