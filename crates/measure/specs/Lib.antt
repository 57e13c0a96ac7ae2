pub mod Measures
pub mod MeasureKindLemmas
