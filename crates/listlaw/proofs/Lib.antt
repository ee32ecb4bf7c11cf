pub mod Members
pub mod Gathering
pub mod States
pub mod Suffixes
pub mod Strings
pub mod Passing
pub mod Laws
pub mod Standings
