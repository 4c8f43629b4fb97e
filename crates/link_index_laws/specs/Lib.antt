pub mod SourceIndex
