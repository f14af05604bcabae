pub mod Splits
pub mod Joins
pub mod Columns
