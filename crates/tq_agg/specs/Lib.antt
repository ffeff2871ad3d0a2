pub mod Bounds
pub mod Buckets
pub mod Changes
pub mod Endpoints
pub mod GroupKeys
pub mod Grouping
pub mod Totals
