pub mod Earliest
