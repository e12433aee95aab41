pub mod Joining
pub mod Structure
pub mod ReadingLaws
pub mod Refusals
pub mod code
