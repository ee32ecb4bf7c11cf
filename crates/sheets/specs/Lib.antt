pub mod Stages
pub mod Plans
pub mod Views
