pub mod Below
pub mod Listed
pub mod Kept
