pub mod Backward
pub mod Trail
pub mod Laws
pub mod Exact
