mod RowLemmas
mod NameLemmas
mod FunctionLemmas
