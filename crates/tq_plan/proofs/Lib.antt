pub mod ConditionLemmas
pub mod CutLemmas
pub mod ScopeLemmas
pub mod PlanLemmas
pub mod WindowLemmas
