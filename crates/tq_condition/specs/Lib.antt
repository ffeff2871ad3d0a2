pub mod Conditions
pub mod KeyRanges
pub mod Known
pub mod Ordinary
pub mod Steps
