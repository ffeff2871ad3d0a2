pub mod HistoryLemmas
pub mod RemovingLemmas
pub mod AnswerLemmas
pub mod NarrowLemmas
