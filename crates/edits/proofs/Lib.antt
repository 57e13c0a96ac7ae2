mod Counting
pub mod Permitted
