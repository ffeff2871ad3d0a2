pub mod Feeds
pub mod Laws
pub mod Parts
pub mod Reading
pub mod Combining
