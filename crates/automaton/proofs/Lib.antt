pub mod Sets
pub mod Links
pub mod Pieces
pub mod Automata
