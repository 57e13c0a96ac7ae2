pub mod Joins
pub mod JoinLaws
