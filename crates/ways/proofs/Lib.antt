pub mod Bits
pub mod Rows
pub mod Narrowing
pub mod Leaves
pub mod Altering
pub mod Finding
