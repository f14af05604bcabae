pub mod Fields
pub mod Sheets
pub mod Opened
pub mod Readers
pub mod Listed
