mod DivisionLemmas
mod PartLoadLemmas
mod PartNumberLemmas
pub mod GroupLemmas
pub mod AddingLemmas
pub mod PartialSums
pub mod AnswerLemmas
pub mod MergeLemmas
pub mod SplitLemmas
pub mod AggregateLemmas
