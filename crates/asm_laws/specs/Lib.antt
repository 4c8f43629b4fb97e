pub mod Functions
pub mod RowLaw
pub mod HandlerLaw
pub mod SourceRowLaw
pub mod MarkLaw
pub mod SymbolLaw
pub mod SizeLaw
pub mod RoomLaw
