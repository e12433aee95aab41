pub mod Known
pub mod Answers
pub mod Valued
pub mod Checking
pub mod Running
pub mod Refusing
pub mod Tabled
pub mod Demand
