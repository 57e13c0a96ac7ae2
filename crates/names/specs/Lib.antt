pub mod NameSets
pub mod Runs
pub mod NamesKindLemmas
