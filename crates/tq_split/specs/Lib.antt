pub mod PartNumbers
pub mod TableParts
pub mod Splits
pub mod RowKeys
pub mod AnswerTexts
pub mod Adding
pub mod Merges
