pub mod RowPeriodLists
mod PrefetchLemmas
mod BorrowLemmas
pub mod WritingLemmas
pub mod Disjoint
pub mod KeyGroups
pub mod MergeLemmas
pub mod RangeLemmas
