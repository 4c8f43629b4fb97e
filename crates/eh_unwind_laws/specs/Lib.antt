pub mod PrologueLaw
pub mod ReadLaw
