pub mod Words
pub mod Grammar
pub mod Limits
pub mod Faults
pub mod Judging
