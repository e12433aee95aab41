pub mod Answers
pub mod trees
pub mod nodes
pub mod Answered
pub mod Promised
