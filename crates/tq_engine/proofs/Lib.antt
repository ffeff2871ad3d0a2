pub mod LoadedQueryLemmas
pub mod DatedLemmas
pub mod UniqueLemmas
pub mod FaultLemmas
pub mod OutcomeLemmas
