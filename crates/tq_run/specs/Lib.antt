pub mod Results
pub mod Counting
pub mod ClaimRule
pub mod Sharing
