pub mod Judged
pub mod Sought
