-- What crates above this one use of `frame_graph` and don't list, so that the ways down from each crate stay few.
pub use Rattle.frame_check.specs.frame_graph.Edges
pub use Rattle.frame_check.specs.frame_graph.FlowGraph
pub use Rattle.frame_check.specs.frame_graph.Places
pub use Rattle.frame_check.specs.frame_graph.Sites
pub use Rattle.frame_check.specs.frame_graph.declared
