pub mod RowLaws
pub mod NameTable
pub mod TableLaws
pub mod Fault
pub mod Printed
