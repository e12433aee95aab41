pub mod Readings
pub mod ReadingExamples
