pub mod StoreValue
pub mod Rules
pub mod Sound
pub mod Calls
pub mod Laws
pub mod Digests
pub mod OpenRows
pub mod OpenIndex
