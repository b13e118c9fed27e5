mod ProgramLemmas
mod ShortLemmas
mod AddedLemmas
mod RowBlocks
mod BodyLemmas
mod FunctionLemmas
