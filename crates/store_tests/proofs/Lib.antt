mod Ascending
mod ColumnRows
