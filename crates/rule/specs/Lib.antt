pub mod Trees
pub mod Rules
pub mod Drafts
pub mod Openings
pub mod Parsing
pub mod Bindings
