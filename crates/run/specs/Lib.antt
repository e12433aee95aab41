pub mod Answer
pub mod Operations
pub mod Demand
pub mod code
