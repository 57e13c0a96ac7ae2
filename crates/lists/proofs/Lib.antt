pub mod Chains
pub mod First
pub mod Left
pub mod Rowwise
