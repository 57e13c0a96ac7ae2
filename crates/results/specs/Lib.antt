pub mod Results
pub mod Figures
pub mod Periods
pub mod PeriodResultLemmas
