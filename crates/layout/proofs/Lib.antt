pub mod Faults
pub mod Numbers
pub mod Entries
pub mod Faultless
pub mod Reading
pub mod Writing
pub mod Lookups
pub mod Meanings
