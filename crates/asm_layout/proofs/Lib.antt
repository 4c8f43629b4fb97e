pub mod FaultLaws
pub mod FirstLaws
pub mod LayoutLaws
pub mod NamedLaws
pub mod PlacingLaws
pub mod WordLemmas
