pub mod Bodies
pub mod Limiting
pub mod Models
pub mod Positions
pub mod Patterns
pub mod Prefaces
