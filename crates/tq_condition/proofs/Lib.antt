pub mod Conditions
pub mod Knowing
pub mod Ranging
pub mod Sufficing
pub mod Rebuilding
