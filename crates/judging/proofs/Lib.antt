pub mod InSet
pub mod Judging
pub mod Lowest
pub mod SetBits
