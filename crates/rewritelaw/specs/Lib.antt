pub mod Automata
pub mod Traces
pub mod Outcomes
pub mod Laws
