pub mod Steps
pub mod Said
