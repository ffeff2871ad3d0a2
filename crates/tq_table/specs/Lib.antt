pub mod Prefetching
pub mod Disjoint
pub mod Groups
pub mod Sink
pub mod Text
pub mod Writing
pub mod Merging
pub mod Amounts
