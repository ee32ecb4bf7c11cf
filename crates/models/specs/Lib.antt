pub mod Alphabet
pub mod Automaton
pub mod Strings
