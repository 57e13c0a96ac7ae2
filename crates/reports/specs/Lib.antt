pub mod Reports
pub mod Meant
