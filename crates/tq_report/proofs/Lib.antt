pub mod TextLemmas
pub mod TimeLemmas
pub mod CsvLemmas
pub mod TypedLemmas
pub mod CsvLaws
pub mod AmountLaws
pub mod EndLaws
