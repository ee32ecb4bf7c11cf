pub mod Strays
