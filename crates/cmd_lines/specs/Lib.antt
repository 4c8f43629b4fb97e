pub mod Text
pub mod CheckText
pub mod TablesText
