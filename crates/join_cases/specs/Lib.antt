pub mod After
pub mod Shut
