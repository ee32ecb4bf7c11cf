pub mod Words
pub mod Bridges
pub mod Laws
