pub mod Drawings
pub mod HeaderLines
pub mod Refusals
pub mod Report
pub mod Retained
pub mod Spans
