-- What crates above this one use of `frame_graph` and don't list, so that the ways down from each crate stay few.
pub use Rattle.frame_graph.specs.Edges
pub use Rattle.frame_graph.specs.FlowGraph
pub use Rattle.frame_graph.specs.Places
pub use Rattle.frame_graph.specs.Reach
pub use Rattle.frame_graph.specs.Sites
pub use Rattle.frame_graph.specs.declared
