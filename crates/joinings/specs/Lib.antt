pub mod Contexts
pub mod Findings
pub mod Reports
pub mod Outcomes
