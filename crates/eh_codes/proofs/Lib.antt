pub mod Search
pub mod Table
pub mod CutLaws
pub mod RowLaws
pub mod CutSteps
pub mod RowBytes
