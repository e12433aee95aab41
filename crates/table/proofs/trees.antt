-- What a table is to its readers: words, trees, and what a passed check gives.
pub mod Trees
pub mod Words
pub mod Deepest
pub mod Facts
pub mod Lists
pub mod Forest
