pub mod Listings
pub mod Reads
pub mod Bodies
pub mod Limits
