pub mod Texts
pub mod Layouts
pub mod Reports
pub mod Times
pub mod TypedTexts
pub mod Laws
pub mod ImportLaws
