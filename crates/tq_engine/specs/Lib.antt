pub mod Answers
pub mod FaultNames
pub mod Source
