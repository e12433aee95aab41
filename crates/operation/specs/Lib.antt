pub mod Operation
pub mod Numbers
pub mod Rows
pub mod Version
pub mod ReadingLaws
pub mod code
