pub mod Two
pub mod Trends
pub mod Seepages
