pub mod Sums
pub mod Listed
pub mod Words
pub mod Asked
