pub mod Windows
pub mod Cuts
pub mod Lists
pub mod Scans
pub mod Laws
pub mod Reports
pub mod Follows
pub mod Rows
