pub mod ReadErrorLemmas
pub mod SpanLemmas
