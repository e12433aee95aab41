pub mod Records
pub mod Adding
pub mod Trial
pub mod Demand
pub mod code
