pub mod CellBytes
pub mod PageLines
pub mod EntryLines
pub mod SheetPages
pub mod SizeLaws
pub mod Telling
pub mod Examples
