pub mod Page
pub mod Answer
pub mod Laws
pub mod Trial
pub mod code
