pub mod Sets
pub mod Built
pub mod Automata
