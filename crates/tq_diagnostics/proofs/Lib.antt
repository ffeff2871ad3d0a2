pub mod Compared
pub mod FaultLemmas
pub mod StatementLemmas
pub mod NearestLemmas
pub mod QuoteLemmas
pub mod RecordLemmas
pub mod ContinuationLemmas
