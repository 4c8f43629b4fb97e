pub mod Building
pub mod FunctionStarts
pub mod Named
