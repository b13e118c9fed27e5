pub mod Within
pub mod FileCalls
pub mod FileOrder
pub mod FileEdges
