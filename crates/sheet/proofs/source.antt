pub mod SourceTests
