pub mod Keys
pub mod Index
pub mod Rows
pub mod Stored
pub mod Valid
pub mod Laws
pub mod Log
