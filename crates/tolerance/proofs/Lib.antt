pub mod Answers
pub mod orders
pub mod trees
pub mod nodes
pub mod tables
