pub mod Descriptions
pub mod Encoding
pub mod Fields
pub mod Judging
