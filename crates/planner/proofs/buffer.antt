pub mod Written
pub mod Filling
pub mod ReadBack
pub mod Copies
