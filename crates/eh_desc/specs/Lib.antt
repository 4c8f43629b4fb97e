pub mod Grammar
pub mod Tables
pub mod Laws
pub mod eh_bytecode
