pub mod CursorView
pub mod Descent
pub mod Faults
pub mod Grammar
pub mod Laws
pub mod Reading
pub mod Tokens
pub mod TokenViews
