pub mod Withdrawn
pub mod Issuing
pub mod Making
