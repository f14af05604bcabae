mod Ahead
mod Growing
mod Chains
mod Openings
mod Operands
mod Expressions
mod Letters
mod Wholes
