pub mod RowCount
