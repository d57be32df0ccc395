pub mod Ready
pub mod Reports
