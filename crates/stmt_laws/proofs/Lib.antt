pub mod Runs
pub mod Opening
pub mod Firsts
pub mod Values
pub mod Rows
pub mod Loops
pub mod Branches
pub mod Ahead
pub mod Simple
pub mod Statements
pub mod Files
pub mod Shapes
pub mod Stands
pub mod SoundAhead
pub mod Built
pub mod SoundBranches
pub mod SoundRows
pub mod Parts
pub mod Cases
pub mod SoundBegins
pub mod Words
pub mod RowMoves
pub mod Behinds
pub mod SoundRuns
mod TreeRows
mod States
mod Taken
mod Nodes
mod TreeSimple
mod TreeRuns
mod TreeLoops
mod Arms
mod Ifs
mod TreeStatements
mod Params
mod Functions
mod TreeFiles
