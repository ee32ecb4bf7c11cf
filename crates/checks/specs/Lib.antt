pub mod Reports
pub mod Outcomes
