pub mod Figures
pub mod ProfileText
pub mod Profiles
