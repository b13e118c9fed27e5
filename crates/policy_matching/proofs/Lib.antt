mod StateLemmas
mod RowLemmas
mod AnswerLemmas
