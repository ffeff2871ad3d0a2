pub mod Counting
pub mod Machine
pub mod Runs
pub mod World
