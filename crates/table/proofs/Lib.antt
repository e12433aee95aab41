pub mod tests
pub mod trees
