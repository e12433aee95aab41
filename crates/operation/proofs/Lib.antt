pub mod Cases
pub mod NumberTests
pub mod OperationParts
pub mod ReservedNames
pub mod ShortOperation
pub mod RowLaws
pub mod Versions
pub mod Readings
