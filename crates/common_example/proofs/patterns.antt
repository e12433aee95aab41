-- The graph of two patterns, of trees and of tables.
pub mod Blanks
pub mod InOrder
pub mod Patterns
pub mod Answers
pub mod Determined
pub mod OneExample
pub mod Tabled
pub mod Outcome
pub mod Literals
