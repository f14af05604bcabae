pub mod Formulas
pub mod Meaning
pub mod Positions
