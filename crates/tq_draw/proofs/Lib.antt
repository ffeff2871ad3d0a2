pub mod BarLemmas
pub mod CalendarLemmas
pub mod CharLemmas
pub mod ColumnLemmas
pub mod EdgeLemmas
pub mod MarkLemmas
pub mod MonthLemmas
pub mod NumberLemmas
pub mod PieceLemmas
pub mod ScaleLemmas
pub mod Steps
pub mod ShownLemmas
mod LabelLemmas
