pub mod Collections
pub mod Answers
pub mod ShortSomeIn
