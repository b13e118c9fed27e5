pub mod Adding
pub mod EchoLemmas
pub mod RunLemmas
