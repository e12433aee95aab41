pub mod Answers
pub mod KeyNames
pub mod Meeting
pub mod Reporting
