pub mod Reads
pub mod Writes
pub mod NameBits
pub mod ThereAndBack
