pub mod AppLemmas
pub mod CommandLineFacts
pub mod CommentLemmas
pub mod DecimalLemmas
pub mod RequestLemmas
