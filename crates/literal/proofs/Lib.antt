pub mod Orders
pub mod Searched
pub mod Numbers
pub mod Decimals
pub mod Keys
pub mod Strings
pub mod Chunks
pub mod Texts
pub mod Answers
mod TextOrder
