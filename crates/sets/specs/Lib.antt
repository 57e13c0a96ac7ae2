pub mod Sets
pub mod Marks
pub mod Walks
