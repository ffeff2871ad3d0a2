pub mod CheckLemmas
pub mod FaultLemmas
pub mod GroupLemmas
pub mod LabelLemmas
pub mod PeriodLemmas
pub mod SumLemmas
pub mod TotalLemmas
