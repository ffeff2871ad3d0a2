pub mod Calendar
pub mod Totals
pub mod Sums
pub mod Text
