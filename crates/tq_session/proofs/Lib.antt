pub mod LineLemmas
pub mod InputLemmas
pub mod SessionLemmas
pub mod AskLemmas
pub mod HeldLemmas
