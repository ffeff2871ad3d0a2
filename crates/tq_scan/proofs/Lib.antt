pub mod Tiles
pub mod Lists
pub mod KeysOnce
pub mod OnePart
pub mod MetLeaves
pub mod Descent
pub mod Backward
pub mod OneVersion
