pub mod Patterns
pub mod Followings
pub mod Goods
pub mod Orders
