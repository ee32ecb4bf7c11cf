pub mod Feeding
pub mod Running
pub mod Bodies
pub mod Agreeing
