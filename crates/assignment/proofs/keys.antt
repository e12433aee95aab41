pub mod Partners
pub mod KeySearch
pub mod KeyLoops
pub mod KeyAnswers
