pub mod Bits
pub mod Narrowing
pub mod Spanning
pub mod Products
